-- The theorems on fences of kind 8.
pub mod Star
