-- The frame of a fence's sixteen places.
pub mod Sixteen
