pub mod Ends
pub mod Outcome
pub mod Reads
pub mod Texts
pub mod Passing
