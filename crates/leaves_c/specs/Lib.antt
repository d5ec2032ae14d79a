-- The definitions that the contracts of `leaves_c` cite.
pub mod Leaves
