-- Laws for writing records.
pub mod Bytes
