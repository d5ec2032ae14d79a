-- The definitions that the contracts of `frame_refusal` cite.
pub mod RefusalFrame
