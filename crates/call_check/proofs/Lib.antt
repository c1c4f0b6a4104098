-- What is proved of cards and states that a call is handed.
pub mod Checked
mod Looked
