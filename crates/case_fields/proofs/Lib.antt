-- For the readers of the text of a case.
pub mod Parts
pub mod Lists
pub mod Folds
pub mod Separators
mod Pairs
