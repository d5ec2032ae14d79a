-- What is claimed of fences of kind 8.
pub mod Star
