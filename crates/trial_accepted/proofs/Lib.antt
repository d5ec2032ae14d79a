-- Every frame made is accepted.
pub mod Accepted
