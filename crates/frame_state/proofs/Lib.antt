-- The size of a state frame, its round trips, and what a function that has a state learns of it.
pub mod Size
pub mod Trips
pub mod Owned
