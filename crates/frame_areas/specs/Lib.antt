-- The definitions that the contracts of `frame_areas` cite.
pub mod AreaFrame
pub mod AreasFrame
pub mod Claims
