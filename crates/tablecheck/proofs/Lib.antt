pub mod Agreeing
mod Columns
