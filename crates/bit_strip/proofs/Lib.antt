-- Laws of strips.
pub mod Strip
