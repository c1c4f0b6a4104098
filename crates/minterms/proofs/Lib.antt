-- The law that the minterms part the columns.
pub mod Parted
