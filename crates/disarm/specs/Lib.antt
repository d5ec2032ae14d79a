-- The definitions that the contracts of `disarm` cite.
pub mod Disarm
