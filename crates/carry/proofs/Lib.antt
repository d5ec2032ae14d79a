-- What carries a state over.
pub mod Carried
