pub mod Values
pub mod Limits
pub mod Examples
pub mod Edges
pub mod Watchman
pub mod Columns
