-- What is proved of picks by the map by value.
pub mod Measured
