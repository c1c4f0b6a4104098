-- Definitions that the contract cites.
pub mod Version
