-- What margin answers.
pub mod Margins
