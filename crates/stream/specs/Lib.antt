-- The definitions that the contracts of `stream` cite.
pub mod Stream
