-- Laws of the trial flights.
pub mod Calls
pub mod Floats
pub mod Rows
pub mod Digits
