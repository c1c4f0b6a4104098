-- The proof of the whole claim.
pub mod Demands
