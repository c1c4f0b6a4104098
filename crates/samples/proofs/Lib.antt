-- Laws of ranks that are drawn: which word decides, refusal 18, and that the ranks are fair.
pub mod Tried
pub mod Many
pub mod Fair
