-- The definitions that the contracts of `inside` cite.
pub mod Inside
pub mod Call
