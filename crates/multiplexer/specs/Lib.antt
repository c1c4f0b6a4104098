-- What the leaves hold, and what is picked from them.
pub mod Leaves
