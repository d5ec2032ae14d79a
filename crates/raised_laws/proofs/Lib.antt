-- The proofs of the claims.
pub mod Pair
pub mod Claim
pub mod Instances
