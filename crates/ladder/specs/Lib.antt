-- The definitions of the ladder's claim, in the order of reading.
pub mod Clock
pub mod Ladder
pub mod Record
pub mod Claim
pub mod Instances
