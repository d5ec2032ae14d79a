-- The definitions that the contracts of `energy` cite.
pub mod Energy
