-- What is proved of bits and their counts.
pub mod Difference
pub mod Largest
pub mod Sums
pub mod Extremes
pub mod Runs
pub mod Bits
pub mod Counting
pub mod Examples
