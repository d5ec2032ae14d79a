-- The laws that the proofs of `corners` and of its callers cite.
pub mod Laws
pub mod Places
pub mod OnceRound
pub mod Callers
pub mod Constants
pub mod Bounds
pub mod Around
