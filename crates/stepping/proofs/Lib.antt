-- Laws of states by value, of states built column by column, and of states known by their columns.
pub mod Holding
pub mod Built
pub mod Columns
