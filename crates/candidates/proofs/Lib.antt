-- What is proved of the search for the least change.
pub mod Attempts
