pub mod Areas
pub mod Enough
pub mod Frames
pub mod Holding
pub mod Room
