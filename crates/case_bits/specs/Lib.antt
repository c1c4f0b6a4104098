pub mod Strip
pub mod Page
