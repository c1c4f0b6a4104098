-- Laws for the reader.
pub mod Map
pub mod FieldRead
pub mod Reader
pub mod Table
