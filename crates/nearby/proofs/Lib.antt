-- What is proved of the list of shovels within a radius.
pub mod Keys
pub mod Listed
pub mod Order
pub mod Answers
