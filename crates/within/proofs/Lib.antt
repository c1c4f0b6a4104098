-- That sorting by keys comes to the list.
pub mod Sorting
pub mod Passed
