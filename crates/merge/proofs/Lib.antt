-- Laws of the rule, and what it leaves of two Telemetries.
pub mod Laws
