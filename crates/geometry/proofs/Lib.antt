-- The laws that the proofs of `geometry` and of its callers cite.
pub mod Hold
pub mod Lengths
pub mod Nearest
pub mod Constants
