-- Laws of a step with its word, and of rows of words.
pub mod Made
pub mod Written
