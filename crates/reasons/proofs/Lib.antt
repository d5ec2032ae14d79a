-- Each reason is filed as its row says.
pub mod Slots
pub mod Rows
pub mod Reasons
