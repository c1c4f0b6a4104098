-- The definitions of the bad bit, by single cycles of the table.
pub mod Fatal
pub mod Answers
