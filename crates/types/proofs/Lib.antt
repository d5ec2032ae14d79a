pub mod Slots
pub mod Order
pub mod Highest
