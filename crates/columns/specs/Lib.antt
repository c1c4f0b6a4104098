-- A state with a column put in, a state by its columns, and what a table of powers holds; few words.
pub mod Replace
pub mod Few
