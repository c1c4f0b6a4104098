-- When the entries at some places exclude a single cycle, and the least set of places that does.
pub mod Search
pub mod Completion
pub mod Members
pub mod Fewest
pub mod Clashes
pub mod Cycles
pub mod Least
