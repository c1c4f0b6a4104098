-- What is proved of fills.
pub mod Filling
pub mod Draws
pub mod Fills
