-- Both clocks, after a 32-bit state is carried over; and that each premise on what is held is needed.
pub mod Claim
pub mod Instances
