-- The definitions that the contracts of `frame_fence` cite.
pub mod FenceFrame
