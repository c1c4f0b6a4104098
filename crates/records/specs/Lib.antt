-- Records of ties: their fields, what bytes mean, what is written, and what a cab is told.
pub mod Fields
pub mod Reading
pub mod Writing
pub mod Orders
