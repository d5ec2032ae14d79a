-- The laws that the entries' proofs cite.
pub mod Buffers
pub mod Numbers
pub mod Judged
pub mod Finish
pub mod Carried
pub mod Flown
