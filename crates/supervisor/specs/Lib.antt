-- The definitions that the contracts of `supervisor` cite.
pub mod Settings
pub mod Step
pub mod Rules
