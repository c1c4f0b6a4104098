-- What inner functions answer on the way to the least change.
pub mod Best
