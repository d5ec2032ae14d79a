-- The laws of what is written, and that it does not matter how the input is cut into blocks; what the functions' proofs cite.
pub mod Whole
pub mod Output
pub mod Turns
pub mod Blocks
pub mod SoFar
pub mod Put
pub mod Moved
pub mod Front
pub mod Rest
