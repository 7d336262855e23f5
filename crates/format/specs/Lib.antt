pub mod Integers
pub mod Numbers
pub mod Tags
pub mod Faults
pub mod Words
