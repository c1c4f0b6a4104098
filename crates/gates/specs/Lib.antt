-- Formulas of gates, those of the paper, and the step that they make.
pub mod Formulas
pub mod Tsc1
