pub mod Slots
pub mod Inside
pub mod Verdicts
pub mod Surveys
pub mod Tables
