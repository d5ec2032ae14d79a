-- The definitions that the contracts of `types` cite.
pub mod Vec3
pub mod Numbers
pub mod ActiveSet
pub mod Filing
