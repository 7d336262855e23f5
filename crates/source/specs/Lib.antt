pub mod Bytes
pub mod Feed
pub mod Sound
pub mod Examples
