-- What is drawn by value.
pub mod Drawn
