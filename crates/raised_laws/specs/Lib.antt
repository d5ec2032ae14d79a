-- The rule of raising and dropping for one pair of timers, the eight pairs, and what holds of every record.
pub mod Pair
pub mod Eight
pub mod Claim
pub mod Instances
