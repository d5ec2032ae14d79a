-- The definitions that the contracts of `geometry` cite.
pub mod Polygon
pub mod Distance
pub mod Nearest
