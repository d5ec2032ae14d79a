-- The laws of a Telemetry frame.
pub mod Checked
pub mod Stamped
pub mod Size
