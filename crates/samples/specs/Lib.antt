-- How a rank is drawn among ties, and refusal 18.
pub mod Samples
