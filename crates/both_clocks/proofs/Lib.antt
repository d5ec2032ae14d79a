-- The claims, and what they take.
pub mod Ages
pub mod LowFrame
pub mod Start
pub mod Claim
pub mod Instances
