-- Aircraft without a hand controller: one step, and two runs.
pub mod Step
pub mod Claim
pub mod Instances
