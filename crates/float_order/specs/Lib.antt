-- What the laws of the order of floats speak of.
pub mod Number
