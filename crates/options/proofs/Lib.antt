-- The laws of values that may be absent, and of enums.
pub mod Zeros
pub mod Options
pub mod Enums
