-- Laws of the calls.
pub mod Opening
pub mod Called
pub mod Draws
