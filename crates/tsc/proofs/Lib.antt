-- Laws of the generator; each file builds on the ones above it.
pub mod Columns
pub mod Number
pub mod Parity
pub mod Selector
pub mod Step
pub mod Table
pub mod Coverage
pub mod ColumnPeriod
pub mod StepBack
pub mod LowWords
pub mod Word
pub mod Balanced
pub mod WordPeriod
