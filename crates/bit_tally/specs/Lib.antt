-- What is kept while bits are counted.
pub mod Tally
