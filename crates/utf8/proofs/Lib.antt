pub mod Widths
pub mod Characters
pub mod Turning
