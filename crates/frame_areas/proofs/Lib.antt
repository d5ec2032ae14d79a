-- Laws of kinds 7 and 13.
pub mod Walk
pub mod Numbers
pub mod Home
pub mod Most
pub mod None
pub mod Claims
pub mod Frames
