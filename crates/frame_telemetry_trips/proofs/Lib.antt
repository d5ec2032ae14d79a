-- The round trips of a Telemetry frame.
pub mod Readings
pub mod Trips
