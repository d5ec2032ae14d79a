-- The definitions that the contracts of `frame_wide` cite.
pub mod Resized
pub mod Stored
pub mod WideState
pub mod WideTelemetry
