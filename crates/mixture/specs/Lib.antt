-- The 200 mixtures of document 02, L13, and their counts.
pub mod Mixtures
