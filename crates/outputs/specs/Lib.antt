-- What a step by value answers together with its word.
pub mod Output
