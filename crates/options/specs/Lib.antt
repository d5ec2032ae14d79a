-- The definitions that the contracts of `options` cite.
pub mod Options
pub mod Position
pub mod Enums
