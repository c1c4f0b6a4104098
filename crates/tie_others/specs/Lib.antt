-- What the other shovels come to.
pub mod Others
