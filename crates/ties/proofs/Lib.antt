-- What is proved of ties.
pub mod Entries
pub mod Least
pub mod Rank
pub mod Order
pub mod Alike
