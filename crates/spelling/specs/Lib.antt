-- The definitions that the contracts of `spelling` cite, and what is claimed of them.
pub mod Spell
pub mod Claim
