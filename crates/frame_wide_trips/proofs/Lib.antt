-- The proofs of the laws of the frames with instants in eight bytes.
pub mod Instant
pub mod Resized
pub mod Readings
pub mod Written
pub mod StateMarks
pub mod TelemetryMarks
pub mod Flags
pub mod StateTrips
pub mod StateBytes
pub mod TelemetryTrips
pub mod TelemetryBytes
pub mod Claim
