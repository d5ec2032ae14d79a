pub mod Rules
pub mod Kept
