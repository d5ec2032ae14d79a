-- The definitions that the contracts of `time` cite.
pub mod Time
