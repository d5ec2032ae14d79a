-- The laws of the frames with instants in eight bytes.
pub mod Claim
