-- What `decide` writes for its whole input; the program's turns on the way; and that it doesn't matter how the input is cut into blocks.
pub mod Decided
pub mod Program
pub mod Blocks
