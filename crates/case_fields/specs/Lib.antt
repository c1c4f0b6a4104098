pub mod Text
pub mod Lists
