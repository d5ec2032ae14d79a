-- What the marks come out at.
pub mod Marks
pub mod Rows
