-- Laws of the other shovels.
pub mod Joined
