pub mod Slices
pub mod Fetching
