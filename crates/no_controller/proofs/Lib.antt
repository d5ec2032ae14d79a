-- The proofs of the claims.
pub mod Step
pub mod Bytes
pub mod Accepted
pub mod Claim
pub mod Instances
