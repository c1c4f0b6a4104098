-- Laws of picks of changed times.
pub mod Outcomes
