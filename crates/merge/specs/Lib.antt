-- The definitions that the contracts of `merge` cite.
pub mod Choice
pub mod Merge
pub mod Claims
