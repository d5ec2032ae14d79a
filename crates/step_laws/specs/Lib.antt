-- What holds of every step.
pub mod Laws
