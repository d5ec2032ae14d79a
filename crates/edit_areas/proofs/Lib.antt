-- The proofs on adds and removes.
pub mod Answers
pub mod Cuts
pub mod Parts
pub mod Adds
pub mod Removes
pub mod Stores
pub mod History
