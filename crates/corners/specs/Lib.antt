-- The definitions that the contracts of `corners` cite.
pub mod Ring
pub mod OnceRound
pub mod Acceptance
pub mod Round
