-- The definitions that the contracts of `entries` and of the C entries cite. `Marked` has helpers alone: what the code makes of a kind 10.
pub mod Form
pub mod Entry
pub mod Widen
pub mod NoAreas
pub mod Marked
