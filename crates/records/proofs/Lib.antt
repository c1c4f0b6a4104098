-- What is proved of records.
pub mod Fields
pub mod Reading
pub mod Writing
pub mod Full
pub mod Orders
