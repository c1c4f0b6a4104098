-- Notation, what a single cycle is, fair ranks, and periods of a sequence.
pub mod Notation
pub mod Cycle
pub mod Fair
pub mod Period
