-- The definitions that the contracts of `float32` cite.
pub mod Sqrt
pub mod Nearest
pub mod Radicand
pub mod Libm
pub mod Binary32
