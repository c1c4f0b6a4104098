-- The best change so far, and what comes before it.
pub mod First
