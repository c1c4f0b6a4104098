-- What the program has room for.
pub mod Room
