-- The definitions that the contracts of `validate` cite.
pub mod Bounds
pub mod Glitch
pub mod Fresh
