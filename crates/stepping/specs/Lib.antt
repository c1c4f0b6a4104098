-- States by value.
pub mod State
