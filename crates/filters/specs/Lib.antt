-- What the filters need of a card. The filters themselves are defined in crate tsc.
pub mod Rotations
