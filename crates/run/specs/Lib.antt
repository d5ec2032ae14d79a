-- Runs of the step entry from a fresh state, and the claim about them.
pub mod Run
pub mod Instances
