-- What inner functions answer.
pub mod Sorting
