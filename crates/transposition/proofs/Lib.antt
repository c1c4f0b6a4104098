-- Laws that the functions' proofs cite.
pub mod Filled
pub mod Exchange
pub mod Groups
