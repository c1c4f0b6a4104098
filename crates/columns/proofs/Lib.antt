-- Laws that the functions' proofs and the callers cite.
pub mod Placed
pub mod Powers
