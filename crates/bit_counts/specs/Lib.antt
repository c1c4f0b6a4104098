-- The bits of a strip, the integers that are counted of them, and what the call answers and leaves.
pub mod Bits
pub mod Counts
pub mod Calls
pub mod Examples
