-- The definitions that the contracts of `frame_config` cite.
pub mod ConfigFrame
