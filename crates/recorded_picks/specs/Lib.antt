-- Recorded picks, and those of a shift.
pub mod Recorded
pub mod Shift
