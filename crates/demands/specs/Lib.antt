-- The whole claim.
pub mod Demands
