-- The laws of the inside test.
pub mod Stops
pub mod Held
pub mod Rows
pub mod Claim
