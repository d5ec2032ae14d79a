-- The counts, and what any step shows.
pub mod Counts
