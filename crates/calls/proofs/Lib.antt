-- Laws of the entries' calls.
pub mod Accepted
pub mod Declined
pub mod NoAreas
pub mod Marked
