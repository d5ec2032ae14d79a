-- The definitions that the contracts of `edit_areas` cite, and the claim on every list of calls.
pub mod Edit
pub mod Cut
pub mod History
