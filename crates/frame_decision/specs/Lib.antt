-- The definitions that the contracts of `frame_decision` cite.
pub mod Slots
pub mod DecisionFrame
