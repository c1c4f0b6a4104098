-- What places in the text of a case are read as.
pub mod Coordinates
