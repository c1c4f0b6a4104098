-- What is proved of picks.
pub mod Picking
pub mod Choice
pub mod Steps
pub mod Shift
pub mod Fair
