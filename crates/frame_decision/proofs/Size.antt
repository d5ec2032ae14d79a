-- A Decision frame has 95 bytes. Assumes nothing.
use mathlib.Core.Path.{◌≡◌, refl}
use lib.ListN.{length}
use Rattle.wire.specs.Fields.{le8, le_flag, le_bytes, le16, le32, le_f32}
use Rattle.wire.specs.Frame.{frame_head}
use Rattle.options.specs.Options.{le_option_f32}
use Rattle.options.specs.Enums.{le_action, le_reason}
use Rattle.types.specs.declared.Decision.{Decision}
use Rattle.frame_decision.specs.Slots.{le_slot, le_slots}
use Rattle.frame_decision.specs.DecisionFrame.{le_estimate, decision_frame}

pub size : (d : Decision) → length (decision_frame d) ≡ 95
unfolding decision_frame frame_head le_action le_reason le_slots le_slot le_estimate le_option_f32 le_f32 le8 le16 le32 le_bytes le_flag
size d = refl
