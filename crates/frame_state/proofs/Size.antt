-- A state frame has 186 bytes, or 194 where raised requests are kept. Assumes nothing.
use Prim.Native.Nat.{◌+◌, ◌≤◌}
use native.Mathlib.Omega.{arith}
use mathlib.Core.Bool.{Bool, true, false}
use mathlib.Core.Path.{◌≡◌, refl}
use lib.ListN.{length}
use Rattle.wire.specs.Fields.{le8, le_flag, le_bytes, le16, le32, le_f32}
use Rattle.wire.specs.Frame.{frame_head}
use Rattle.options.specs.Options.{le_option_u32}
use Rattle.options.specs.Position.{le_vec3, le_option_position}
use Rattle.options.specs.Enums.{le_action, le_reason}
use Rattle.supervisor.specs.declared.Supervisor.{Supervisor}
use Rattle.frame_state.specs.StateFrame.{state_length, le_raised, le_timer, le_links, le_fence, le_battery, le_input, le_triggers, le_arbiter, state_frame}

pub size : (keeps : Bool) (x : Supervisor) → length (state_frame keeps x) ≡ 2 + state_length keeps
unfolding state_frame le_raised frame_head le_triggers le_links le_fence le_battery le_input le_timer le_arbiter le_action le_reason le_option_u32 le_option_position le_vec3 le_f32 le8 le16 le32 le_bytes le_flag
size true x = refl
size false x = refl

-- a frame of either kind has the bytes of a kind 5
pub least : (keeps : Bool) → 184 ≤ state_length keeps
least true = omega arith
least false = omega arith
