-- The laws of the order of floats.
pub mod Order
