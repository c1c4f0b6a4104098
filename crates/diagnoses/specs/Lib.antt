-- The fewest places of a table that make it no single cycle whatever stands elsewhere, and what the call answers.
pub mod BadPlaces
