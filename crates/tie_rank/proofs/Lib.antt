-- A law for the functions on ranks.
pub mod Counted
