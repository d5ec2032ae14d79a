-- The definitions that the contracts of `arbiter` cite.
pub mod Arbiter
