-- Changes of one shovel's time and their order, and what the other shovels come to.
pub mod Change
pub mod Others
