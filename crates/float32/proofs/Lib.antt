-- The theorems of `float32`, in SquareRoot, Libm and Constants, and what its proofs share.
pub mod SquareRoot
pub mod Libm
pub mod Constants
mod Squares
mod Round
mod Patterns
mod Nearest
mod Guess
