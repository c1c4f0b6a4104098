-- What is proved of cards.
pub mod Fields
pub mod Sound
pub mod Verdict
pub mod Bytes
pub mod Writing
pub mod RoundTrip
pub mod Examples
