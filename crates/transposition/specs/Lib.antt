-- Matrices of 8 by 8 bits in a number of 64 bits, and groups of eight columns.
pub mod Matrix
pub mod Groups
