-- The definitions that the contracts of `whole_energy` cite, and the bound of its estimate.
pub mod Root
pub mod Input
pub mod Energy
pub mod Call
