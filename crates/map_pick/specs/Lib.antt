-- What inner functions answer.
pub mod Measured
