pub mod Reader
pub mod Held
pub mod Sound
pub mod Slice
pub mod Assured
