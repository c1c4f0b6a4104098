-- What the calls on lent slices answer and leave.
pub mod Calls
