-- What the Rust's constructors say of the default fence.
pub mod Default
