-- Ties of a list of shovels and their times, ranks, a least time, lists with the same ties, and lists in another order.
pub mod Ties
pub mod Least
pub mod Order
