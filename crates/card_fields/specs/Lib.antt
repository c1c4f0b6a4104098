-- What inner functions answer.
pub mod LowBytes
pub mod Number
