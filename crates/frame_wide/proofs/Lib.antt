-- The laws of frames with instants in eight bytes.
pub mod Eight
pub mod Nexts
pub mod Places
