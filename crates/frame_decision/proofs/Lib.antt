-- The size of a Decision frame, its slots, its round trips, and what a function that has a Decision learns of it.
pub mod Size
pub mod Slots
pub mod Trips
pub mod Owned
