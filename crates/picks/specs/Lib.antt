-- What a pick answers and leaves, picks over a shift, and which are counted for fairness.
pub mod Picks
pub mod Shift
pub mod Fair
