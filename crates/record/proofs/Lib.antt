-- Laws for reading records.
pub mod Tested
pub mod Words
pub mod Assembled
