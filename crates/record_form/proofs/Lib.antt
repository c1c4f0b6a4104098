-- Laws for reading records.
pub mod Places
