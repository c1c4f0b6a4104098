-- When some entries of a map exclude a single cycle; which of several sets of places comes first; what a search for the least looks for.
pub mod Completion
pub mod Sets
pub mod Finding
