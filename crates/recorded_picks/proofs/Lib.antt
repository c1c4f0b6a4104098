-- What is proved of recorded picks.
pub mod Recorded
pub mod Order
pub mod Desk
