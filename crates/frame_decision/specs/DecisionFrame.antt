-- Kind 4, Decision: "Body fields stand in the Rust's declared order". Assumes nothing.
use Rattle.std.specs.Prelude.{ℕ, ◌≡◌, List, [], ◌∷◌, ◌++◌, Bool, cond, T, length, replicate, unwrap_or, Result, Ok, Err}
use Rattle.std.specs.Result.{result_and}
use Rattle.std.specs.Float.{binary32}
use Rattle.std.specs.Float.Ieee.{fits, of_bits}
use Rattle.types.specs.declared.EnergyEstimate.{EnergyEstimate}
use Rattle.types.specs.declared.Decision.{Decision}
use Rattle.wire.specs.Fields.{flag_at, f32_at, byte_below, le_flag, le_f32}
use Rattle.wire.specs.Cell.{Sort, U8, Flag, U16, F32}
use Rattle.wire.specs.Frame.{check_frame, frame_head, all_true}
use Rattle.options.specs.Options.{valid_option, option_f32_at, le_option_f32}
use Rattle.options.specs.Enums.{action_at, reason_at, le_action, le_reason}
use Rattle.wire.specs.declared.FrameError.{FrameError}
use Rattle.frame_decision.specs.Slots.{slots_at, slots_valid, le_slots}

-- the fields in their places, after the four bytes of the head
unfoldable pub estimate_at : List ℕ → EnergyEstimate
estimate_at s =
    record {
      rtl_wh = f32_at s 66;
      land_wh = f32_at s 70;
      reserve_wh = f32_at s 74;
      remaining_wh = option_f32_at s 78;
      margin_wh = option_f32_at s 83;
      insufficient_for_landing = flag_at s 88;
    }

unfoldable pub decision_at : List ℕ → Decision
decision_at s =
    record {
      action = action_at s 4;
      reason = reason_at s 5;
      requested = action_at s 6;
      active = record { reqs = slots_at s 19 };
      position_valid = flag_at s 64;
      clock_fault = flag_at s 65;
      energy = estimate_at s;
      fence_dist_m = option_f32_at s 89;
      disarm_eligible = flag_at s 94;
    }

-- "flag or enum byte out of range; absent value not zero", beside the slots
abbrev pub decision_tests : List ℕ → List Bool
decision_tests s =
    byte_below s 4 5 ∷
    byte_below s 5 19 ∷
    byte_below s 6 5 ∷
    byte_below s 64 2 ∷
    byte_below s 65 2 ∷
    valid_option s 78 4 ∷
    valid_option s 83 4 ∷
    byte_below s 88 2 ∷
    valid_option s 89 4 ∷
    byte_below s 94 2 ∷
    []

unfoldable pub decision_valid : List ℕ → Bool
decision_valid s = all_true (slots_valid s 19) (decision_tests s)

-- the frame read: what the head earns, OutOfRange for a field that is not valid, or the value
unfoldable pub read_decision : List ℕ → Result Decision FrameError
read_decision s = result_and (check_frame 4 93 s) (cond (decision_valid s) (Ok (decision_at s)) (Err FrameError.OutOfRange))

unfoldable pub le_estimate : EnergyEstimate → List ℕ
le_estimate e =
    le_f32 e.rtl_wh ++
    (le_f32 e.land_wh ++
    (le_f32 e.reserve_wh ++
    (le_option_f32 e.remaining_wh ++
    (le_option_f32 e.margin_wh ++
    le_flag e.insufficient_for_landing))))

-- the whole frame: 93 bytes of kind and body
unfoldable pub decision_frame : Decision → List ℕ
decision_frame d =
    frame_head 4 93 ++
    (le_action d.action ++
    (le_reason d.reason ++
    (le_action d.requested ++
    (le_slots 19 d.active.reqs ++
    (le_flag d.position_valid ++
    (le_flag d.clock_fault ++
    (le_estimate d.energy ++
    (le_option_f32 d.fence_dist_m ++
    le_flag d.disarm_eligible))))))))

-- the sorts of the frame's fields: two of the head, 60 bytes of action, reason, requested action and slots, and the rest
abbrev pub decision_sorts : List Sort
decision_sorts =
    U16 ∷ U16 ∷ replicate 60 U8 ++ (Flag ∷ Flag ∷ F32 ∷ F32 ∷ F32 ∷ U8 ∷ F32 ∷ U8 ∷ F32 ∷ Flag ∷ U8 ∷ F32 ∷ Flag ∷ [])

-- what each Decision in a program has by its type: nineteen slots, and floats of binary32
pub record Typed (d : Decision) : Type 0 where
  pub nineteen : length d.active.reqs ≡ 19
  pub rtl : T (fits binary32 d.energy.rtl_wh)
  pub land : T (fits binary32 d.energy.land_wh)
  pub reserve : T (fits binary32 d.energy.reserve_wh)
  pub remaining : T (fits binary32 (unwrap_or d.energy.remaining_wh (of_bits binary32 0)))
  pub margin : T (fits binary32 (unwrap_or d.energy.margin_wh (of_bits binary32 0)))
  pub fence : T (fits binary32 (unwrap_or d.fence_dist_m (of_bits binary32 0)))
