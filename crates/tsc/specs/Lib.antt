-- The generator of document 002, in its order, widened to other sizes as document 01 says. General in m and n.
pub mod Constants
pub mod Columns
pub mod Selector
pub mod Step
pub mod Word
pub mod Coverage
pub mod Opposite
