-- Refusals 10 and 11.
pub mod Checks
