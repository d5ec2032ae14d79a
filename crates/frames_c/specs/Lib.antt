-- The definitions that the contracts of `frames_c` cite.
pub mod Again
