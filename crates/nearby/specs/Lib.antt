-- The shovels within a radius: their list, and what the call answers.
pub mod Nearby
pub mod Calls
