-- What the functions that the reader calls answer; the contracts above them cite the definitions of crate card_format alone.
pub mod FieldRead
