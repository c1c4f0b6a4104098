-- Which cards draw words that don't repeat before all states have passed.
pub mod Computed
pub mod Wide
