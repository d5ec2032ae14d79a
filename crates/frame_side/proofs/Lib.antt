-- The laws of a Decision frame with its side.
pub mod Splice
pub mod Size
pub mod Written
pub mod Trips
