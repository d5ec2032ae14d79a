-- What the definitions' constants are.
pub mod Constants
