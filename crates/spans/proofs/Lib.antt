-- Laws of spans.
pub mod Span
