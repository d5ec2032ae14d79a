-- The merged frame is accepted by the reader; what a call leaves.
pub mod Accepted
pub mod Checked
pub mod Claims
