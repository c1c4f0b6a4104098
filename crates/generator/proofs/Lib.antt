-- What the calls know once they have found TSC-1's card.
pub mod Found
