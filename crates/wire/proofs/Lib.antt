-- The laws of reading and writing the fields of a frame.
pub mod Past
pub mod Number
pub mod Stores
pub mod Over
pub mod Laid
pub mod Fields
pub mod Whole
pub mod Head
pub mod Read
pub mod Cells
