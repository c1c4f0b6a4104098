-- What the proofs of the calls rest on, and demands 1 and 2 as C sees them.
pub mod Given
pub mod Refused
pub mod Records
pub mod Counts
pub mod RoundTrip
