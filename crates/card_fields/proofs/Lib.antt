-- Laws for the functions on fields, and laws that callers cite.
pub mod Arrays
pub mod LowBytes
