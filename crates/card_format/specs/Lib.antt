-- Cards as document 01 has them: refusals, fields, what bytes mean, which are accepted, what the writer writes, the P rows.
pub mod Fields
pub mod Reading
pub mod Verdict
pub mod Writing
pub mod Examples
