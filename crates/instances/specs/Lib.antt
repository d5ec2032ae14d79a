-- Document 01's table of proved instances, and small ones beside it.
pub mod Table
pub mod Small
