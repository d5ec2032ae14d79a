-- The definitions that the contracts of `config` cite.
pub mod Config
pub mod Default
