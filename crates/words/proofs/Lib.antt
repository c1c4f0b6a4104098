-- Laws that the functions' proofs and the callers cite.
pub mod Reduced
pub mod Masks
pub mod Words
