-- Laws of formulas of gates, and of TSC-1's card and step.
pub mod Formulas
pub mod GateStep
