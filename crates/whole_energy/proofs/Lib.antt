-- The theorems of `whole_energy`, in Root, Bound and Numbers, and what its proofs share.
pub mod Root
pub mod Bound
pub mod Numbers
mod Limits
mod Sizes
