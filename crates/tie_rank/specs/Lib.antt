-- What inner functions answer and ask.
pub mod Listed
