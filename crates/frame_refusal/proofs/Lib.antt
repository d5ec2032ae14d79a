-- The size of a refusal frame, and its round trips.
pub mod Size
pub mod Trips
