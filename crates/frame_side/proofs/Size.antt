-- A Decision frame with its side has 96 bytes, and the last byte of a Decision's frame is disarm_eligible. Assumes nothing.
use Prim.Native.Nat.{ℕ}
use mathlib.Core.Path.{◌≡◌, refl}
use lib.ListN.{length, drop}
use Rattle.wire.specs.Fields.{le8, le_flag, le_bytes, le16, le32, le_f32}
use Rattle.wire.specs.Frame.{frame_head}
use Rattle.options.specs.Options.{le_option_f32}
use Rattle.options.specs.Enums.{le_action, le_reason}
use Rattle.types.specs.declared.Decision.{Decision}
use Rattle.frame_decision.specs.Slots.{le_slot, le_slots}
use Rattle.frame_decision.specs.DecisionFrame.{le_estimate, decision_frame}
use Rattle.frame_side.specs.SideFrame.{side_frame}

pub size : (d : Decision) (side : ℕ) → length (side_frame d side) ≡ 96
unfolding side_frame decision_frame frame_head le_action le_reason le_slots le_slot le_estimate le_option_f32 le_f32 le8 le16 le32 le_bytes le_flag
size d side = refl

pub eligible : (d : Decision) → le_flag d.disarm_eligible ≡ drop 94 (decision_frame d)
unfolding decision_frame frame_head le_action le_reason le_slots le_slot le_estimate le_option_f32 le_f32 le8 le16 le32 le_bytes le_flag
eligible d = refl
