-- The definitions that the contracts of `entries` cite.
pub mod Errors
