-- The step under another clock: timers, families, readings, the step.
pub mod Choices
pub mod Timers
pub mod Fresh
pub mod Families
pub mod Update
pub mod Filter
pub mod Sense
pub mod Show
pub mod Step
pub mod Own
pub mod Rows
pub mod Marked
pub mod Moves
pub mod Both
