-- What marks how each test of the 64-bit clock came out.
pub mod Marks
pub mod Rows
