-- What is claimed of the frames of trial flights.
pub mod Accepted
