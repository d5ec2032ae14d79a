-- The definitions that the contracts of `merge_frames` cite.
pub mod Call
pub mod Claims
