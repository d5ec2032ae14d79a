-- The round trips of a fence frame.
pub mod Corners
pub mod Trips
