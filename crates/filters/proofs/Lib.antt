-- Laws for the filters.
pub mod Rotated
