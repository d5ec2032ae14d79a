-- The definitions that the contracts of `triggers` cite.
pub mod Families
pub mod Update
