-- Widths, and words by their bits. The rest of what the contracts cite is defined in crate tsc.
pub mod Widths
pub mod Masks
