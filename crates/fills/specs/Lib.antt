-- What a fill answers and leaves, and the same by single draws.
pub mod Fills
pub mod Draws
