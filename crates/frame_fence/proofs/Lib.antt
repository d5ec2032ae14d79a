-- The laws of the corners in a fence frame, and of the fence rules on a frame.
pub mod Corners
pub mod Bytes
pub mod Rules
pub mod Parts
