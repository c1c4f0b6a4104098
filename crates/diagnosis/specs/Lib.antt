-- The table that is handed down, marks on it, and what has been tried.
pub mod Marks
