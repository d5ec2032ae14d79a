-- The definitions that the contracts of `frame_side` cite.
pub mod SideFrame
