-- The proofs of the claim (Run) and of the short runs (Instances), with what they need.
pub mod Choices
pub mod Stretch
pub mod Arbiter
pub mod Obeys
pub mod Clock
pub mod Run
pub mod Instances
