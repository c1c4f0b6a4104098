-- The refusals, and which of several is told.
pub mod Refusals
