-- The size of a Config frame, its round trips, and what a frame that is not refused is.
pub mod Size
pub mod Accepted
pub mod Trips
