-- Laws for the functions on lists, and what callers know of a list that is not refused.
pub mod Twice
pub mod Allowed
