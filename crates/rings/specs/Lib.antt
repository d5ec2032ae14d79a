-- The definitions, in the order of reading.
pub mod Ring
pub mod Spelling
pub mod Corner
pub mod Claim
pub mod Instances
