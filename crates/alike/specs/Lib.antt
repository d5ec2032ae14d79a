-- Two steps on different clocks, in the order of reading.
pub mod Alike
pub mod Marked
pub mod Both
