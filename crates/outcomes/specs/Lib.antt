-- What inner functions ask and answer of picks of changed times.
pub mod Elsewhere
