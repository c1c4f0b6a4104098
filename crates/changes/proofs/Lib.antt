-- What is proved of changes of one time.
pub mod After
pub mod Order
pub mod Nearest
pub mod Listing
pub mod Worked
