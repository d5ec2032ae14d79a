-- The proofs of the claims, with what they need.
pub mod Lists
pub mod Good
pub mod Claim
pub mod Cut
pub mod Clearance
pub mod Instances
