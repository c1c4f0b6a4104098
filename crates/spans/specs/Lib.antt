-- Refusal 17.
pub mod Span
