-- Laws for the fields' bytes.
pub mod FieldBytes
