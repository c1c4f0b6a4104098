-- Refusals 22 to 24.
pub mod Strip
