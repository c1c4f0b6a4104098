-- What is proved of margins by value.
pub mod Front
pub mod Found
