-- The instances on bytes.
pub mod Frames
pub mod Written
pub mod Answers
