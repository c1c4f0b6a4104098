-- Laws of ranks drawn by value.
pub mod Passed
