-- Laws of what is kept while bits are counted.
pub mod Pass
pub mod Room
pub mod Text
