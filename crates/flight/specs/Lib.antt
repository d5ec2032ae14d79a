-- The definitions that the contracts of `flight` cite, and what they are of the Rust's.
pub mod Flight
pub mod Rust
