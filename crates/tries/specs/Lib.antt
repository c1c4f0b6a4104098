-- Ranks by a row of words.
pub mod Tries
