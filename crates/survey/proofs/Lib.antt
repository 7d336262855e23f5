pub mod Drawing
pub mod Reading
pub mod Meaning
pub mod Inside
pub mod InTurn
