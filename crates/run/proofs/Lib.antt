-- The claim about runs of the entries, and what it takes.
pub mod Small
pub mod Typed
pub mod Wide
pub mod Forms
pub mod Run
pub mod Instances
