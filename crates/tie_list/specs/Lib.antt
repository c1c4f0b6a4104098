-- Refusals 12 to 15, and what an inner function answers.
pub mod Checks
pub mod Repeats
