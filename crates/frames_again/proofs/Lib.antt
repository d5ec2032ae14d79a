-- A frame in a slice of its own length, and what fits one after a step.
pub mod Filled
pub mod Stepped
