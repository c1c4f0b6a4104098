-- What holds of the front of an array that is lent.
pub mod Front
