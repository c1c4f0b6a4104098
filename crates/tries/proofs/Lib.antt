-- Laws of ranks by a row of words.
pub mod Ranks
