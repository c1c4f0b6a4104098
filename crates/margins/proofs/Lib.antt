-- What is proved of margins.
pub mod Changed
pub mod Answers
pub mod Alike
pub mod Firm
