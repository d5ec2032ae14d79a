-- The laws about the flights that are read.
pub mod Numbers
pub mod Read
pub mod Rust
