-- The definitions that the contracts of `frame_state` cite.
pub mod StateFrame
