-- The instants of a state and the stamps of telemetry.
pub mod Retimed
pub mod Own
pub mod Listed
