-- What a pick by the map answers and leaves, and timed picks and picks by the map over a shift.
pub mod MapPicks
pub mod Shift
