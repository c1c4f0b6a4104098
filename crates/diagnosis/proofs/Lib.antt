-- What the searches come to: places found, marks, places tried, the set that is chosen, its list, what is shown of a card.
pub mod Tables
pub mod Found
pub mod Marking
pub mod Tries
pub mod Chosen
pub mod Listing
pub mod Shown
