-- Laws that callers cite.
pub mod Numbers
pub mod Refusals
pub mod Answers
