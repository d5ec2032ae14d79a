-- The definitions that the contracts of `timers` cite.
pub mod Timer
