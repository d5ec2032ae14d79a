-- The theorems on one spelling.
pub mod Verdict
pub mod Claims
