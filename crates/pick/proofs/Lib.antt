-- What is proved of picks by value.
pub mod Passed
