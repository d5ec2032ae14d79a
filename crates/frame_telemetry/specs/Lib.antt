-- The definitions that the contracts of `frame_telemetry` cite.
pub mod Readings
pub mod Checked
pub mod TelemetryFrame
