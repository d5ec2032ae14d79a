-- The definitions that the contracts of `trial` cite.
pub mod Draws
pub mod Trial
pub mod Call
pub mod Decimal
