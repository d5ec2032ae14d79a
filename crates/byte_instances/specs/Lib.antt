-- What is claimed of single frames, of what `decide` writes, and of single calls.
pub mod Frames
pub mod Written
pub mod Answers
