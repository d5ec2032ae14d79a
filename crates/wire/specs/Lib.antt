-- The definitions that the contracts of `wire` cite.
pub mod Fields
pub mod Cell
pub mod Frame
pub mod Laid
