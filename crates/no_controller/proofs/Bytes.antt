-- Slices that are equal but for some bytes: what is read off telemetry, and the frame of a state. Assumes nothing.
use Prim.Native.Nat.{ℕ, ◌-◌}
use mathlib.Core.List.{List, ◌++◌}
use mathlib.Core.Path.{◌≡◌, refl, ap, sym, ◌∙◌}
use lib.ListN.{length, take, drop, replicate}
use Rattle.types.specs.declared.Telemetry.{Telemetry}
use Rattle.supervisor.specs.declared.Supervisor.{Supervisor}
use Rattle.wire.specs.Fields.{u8_at, number_at, u32_at, f32_at, flag_at, le_bytes, le8, le16, le32, le_f32, le_flag, bytes_from}
use Rattle.wire.specs.Frame.{frame_head}
use Rattle.wire.proofs.Whole.{whole}
use Rattle.options.specs.Enums.{le_action, le_reason}
use Rattle.options.specs.Options.{option_u8_at, option_u32_at, option_f32_at, le_option_u32}
use Rattle.options.specs.Position.{vec3_at, option_position_at, le_vec3, le_option_position}
use Rattle.frame_telemetry.specs.Readings.{fix_at, landed_at, option_gps_at, stamped_f32_at, stamped_bool_at, stamped_landed_at}
use Rattle.frame_telemetry.specs.TelemetryFrame.{telemetry_at}
use Rattle.frame_state.specs.StateFrame.{le_timer, le_links, le_fence, le_battery, le_input, le_triggers, le_arbiter, state_frame}
use Rattle.instants.specs.Retimed.{telemetry_at as telemetry_on64}
use Rattle.instants.specs.Own.{instants_of}
use Rattle.instants.specs.Listed.{listed, stamps_unlisted}
use Rattle.frame_wide.specs.Resized.{instants_at, narrowed, widened}
use Rattle.frame_wide.specs.WideState.{state_gaps, wide_state_frame}
use Rattle.frame_wide.specs.WideTelemetry.{telemetry_gaps, telemetry_on, wide_stamps}
use Rattle.calls.specs.Form.{Form, base, wide, state_frame_of, telemetry_in}
use Rattle.run.proofs.Forms.{state_size_lem}
use Rattle.no_controller.specs.Step.{without_rc, without_rc_timer, without_rc_clear}
use Rattle.no_controller.specs.Claim.{EqualBut, rc_from, rc_to, timer_from, timer_to}

-- ---- telemetry that is equal but for rc_ok's bytes

-- the bytes of a telemetry frame
abbrev pub telemetry_size : Form → ℕ
telemetry_size (base keeps) = 106
telemetry_size wide = 150

module _ (form : Form) where
  -- a slice with 0 for the bytes of rc_ok
  abbrev blank : List ℕ → List ℕ
  blank s = take (rc_from form) s ++ (replicate (rc_to form - rc_from form) 0 ++ drop (rc_to form) s)

  abbrev others : List ℕ → Telemetry
  others s = without_rc (telemetry_in form s)

-- nothing else is read off them
blank_same : (form : Form) (s : List ℕ) → others form (bytes_from s 0 (telemetry_size form)) ≡ others form (blank form (bytes_from s 0 (telemetry_size form)))
unfolding without_rc telemetry_at telemetry_on64 wide_stamps stamps_unlisted instants_at telemetry_on narrowed telemetry_gaps frame_head le_bytes le16 option_position_at vec3_at option_gps_at fix_at stamped_f32_at stamped_bool_at stamped_landed_at landed_at option_u8_at option_u32_at option_f32_at u32_at f32_at flag_at number_at u8_at
blank_same (base keeps) s = refl
blank_same wide s = refl

blanked : (form : Form) (s : List ℕ) → length s ≡ telemetry_size form → others form s ≡ others form (blank form s)
blanked form s n =
    let e = whole 0 (telemetry_size form) s n in
    ap (others form) (sym e) ∙ blank_same form s ∙ ap (λ (l : List ℕ). others form (blank form l)) e

pub telemetry_same : (form : Form) (a b : List ℕ) → EqualBut (rc_from form) (rc_to form) a b → length a ≡ telemetry_size form → without_rc (telemetry_in form a) ≡ without_rc (telemetry_in form b)
telemetry_same form a b h n =
    blanked form a n
    ∙ (λ i. others form (h.before i ++ (replicate (rc_to form - rc_from form) 0 ++ h.behind i)))
    ∙ sym (blanked form b (sym h.lengths ∙ n))

-- ---- frames of states that are equal but for the RC clear timer

before_timer : (form : Form) (x : Supervisor) → take (timer_from form) (state_frame_of form x) ≡ take (timer_from form) (state_frame_of form (without_rc_clear x))
unfolding wide_state_frame instants_of listed widened state_gaps state_frame frame_head le_triggers le_links le_fence le_battery le_input le_timer le_arbiter le_action le_reason le_option_u32 le_option_position le_vec3 le_f32 le8 le16 le32 le_bytes le_flag u8_at without_rc_timer without_rc_clear
before_timer (base keeps) x = refl
before_timer wide x = refl

behind_timer : (form : Form) (x : Supervisor) → drop (timer_to form) (state_frame_of form x) ≡ drop (timer_to form) (state_frame_of form (without_rc_clear x))
unfolding wide_state_frame instants_of listed widened state_gaps state_frame frame_head le_triggers le_links le_fence le_battery le_input le_timer le_arbiter le_action le_reason le_option_u32 le_option_position le_vec3 le_f32 le8 le16 le32 le_bytes le_flag u8_at without_rc_timer without_rc_clear
behind_timer (base keeps) x = refl
behind_timer wide x = refl

pub frames_same : (form : Form) (x y : Supervisor) → without_rc_clear x ≡ without_rc_clear y → EqualBut (timer_from form) (timer_to form) (state_frame_of form x) (state_frame_of form y)
frames_same form x y e =
    record {
      lengths = state_size_lem form x ∙ sym (state_size_lem form y);
      before = before_timer form x ∙ ap (λ (z : Supervisor). take (timer_from form) (state_frame_of form z)) e ∙ sym (before_timer form y);
      behind = behind_timer form x ∙ ap (λ (z : Supervisor). drop (timer_to form) (state_frame_of form z)) e ∙ sym (behind_timer form y);
    }
