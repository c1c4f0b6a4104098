-- Words past m left out by masks.
pub mod Masked
