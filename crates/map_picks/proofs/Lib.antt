-- What is proved of picks by the map.
pub mod Timed
pub mod Order
pub mod Shift
