-- Laws for recorded picks.
pub mod Page
