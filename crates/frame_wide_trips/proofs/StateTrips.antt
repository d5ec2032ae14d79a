-- A state written as a kind 10 and read again. Assumes nothing.
use Rattle.std.specs.Prelude.{Option, Some, None, ℕ, unwrap_or}
use Prim.Native.Nat.{◌^◌, ◌<◌}
use mathlib.Core.Path.{◌≡◌, ◌∙◌, ap, refl}
use mathlib.Core.Bool.{false}
use mathlib.Core.List.{◌++◌}
use lib.Dec.{lit<}
use lib.ListN.{length, replicate}
use Rattle.supervisor.specs.declared.Supervisor.{Supervisor}
use Rattle.supervisor.specs.Rules.{finite_stored, Rules, RaisedFits}
use Rattle.wire.specs.Fields.{u8_at, number_at, u16_at, le_bytes, le8, le16, le32, le_f32, le_flag}
use Rattle.wire.specs.Frame.{frame_fault, frame_head, check_frame}
use Rattle.wire.proofs.Number.{bytes_number}
use Rattle.options.specs.Options.{le_option_u32}
use Rattle.options.specs.Position.{le_vec3, le_option_position}
use Rattle.options.specs.Enums.{le_action, le_reason}
use Rattle.std.specs.Prelude.{Ok}
use Rattle.wire.proofs.Head.{number_zero}
use Rattle.frame_state.specs.StateFrame.{read_state, le_timer, le_links, le_fence, le_battery, le_input, le_triggers, le_arbiter, state_frame, Typed}
use Rattle.frame_state.proofs.Trips.{value_back}
use Rattle.instants.specs.Retimed.{gcs_clear, rc_clear, gps_deg_set, gps_deg_clear, gps_lost_set, gps_lost_clear, ekf_set, ekf_clear, breach_set, breach_clear, alt_max_set, alt_max_clear, alt_min_set, alt_min_clear, stale_clear, warn_set, warn_clear, low_set, low_clear, crit_set, marg_set, marg_clear, infeas_set, invalid_clear, rc_set, Instants, instead, position_at, triggers_at, supervisor_at}
use Rattle.instants.specs.Own.{instants_of}
use Rattle.instants.specs.Listed.{listed, unlisted}
use Rattle.frame_wide.specs.Resized.{instants_at, narrowed, widened}
use Rattle.frame_wide.specs.WideState.{state_gaps, state_on, wide_instants, read_wide_state, wide_state_frame}
use Rattle.frame_wide_trips.specs.Claim.{TypedWide}
use Rattle.frame_wide_trips.proofs.Readings.{instant_zero, sample_zero, instant_back, sample_back}
use Rattle.types.specs.declared.PositionSample.{PositionSample}

-- ---- the frame's head and length

pub size : (x : Supervisor) → length (wide_state_frame x) ≡ 306
unfolding wide_state_frame instants_of listed widened state_gaps state_frame frame_head le_triggers le_links le_fence le_battery le_input le_timer le_arbiter le_action le_reason le_option_u32 le_option_position le_vec3 le_f32 le8 le16 le32 le_bytes le_flag u8_at
size x = refl

pub kind : (x : Supervisor) → u16_at (wide_state_frame x) 2 ≡ 10
unfolding wide_state_frame instants_of listed widened state_gaps state_frame frame_head le_triggers le_links le_fence le_battery le_input le_timer le_arbiter le_action le_reason le_option_u32 le_option_position le_vec3 le_f32 le8 le16 le32 le_bytes le_flag u8_at number_at u16_at
kind x = refl

pub head : (x : Supervisor) → frame_fault 10 304 (wide_state_frame x) ≡ 0
unfolding check_frame wide_state_frame instants_of listed widened state_gaps state_frame frame_head le_triggers le_links le_fence le_battery le_input le_timer le_arbiter le_action le_reason le_option_u32 le_option_position le_vec3 le_f32 le8 le16 le32 le_bytes le_flag u8_at number_at u16_at
head x = refl

-- ---- the kind 5 of what was written: the state at 0

abbrev zeroes : Instants
zeroes = record { timer = λ n. 0; recovery = 0; gate = 0; stored = 0; last = 0; epoch = 0 }

at_zero : (x : Supervisor) → state_on (replicate 30 0) (wide_state_frame x) ≡ state_frame false (supervisor_at zeroes x)
unfolding state_on narrowed supervisor_at triggers_at wide_state_frame instants_of listed widened state_gaps state_frame frame_head le_triggers le_links le_fence le_battery le_input le_timer le_arbiter le_action le_reason le_option_u32 le_option_position le_vec3 le_f32 le8 le16 le32 le_bytes le_flag u8_at number_at
at_zero x =
    let t = x.triggers in
    λ j.
    frame_head 5 184
    ++ (le_flag t.battery_critical_latched ++ (le_flag t.energy_infeasible_latched
    ++ (instant_zero t.gcs_clear_timer.since_ms j
    ++ (instant_zero t.rc_clear_timer.since_ms j
    ++ (instant_zero t.gps_deg_set.since_ms j
    ++ (instant_zero t.gps_deg_clear.since_ms j
    ++ (instant_zero t.gps_lost_set.since_ms j
    ++ (instant_zero t.gps_lost_clear.since_ms j
    ++ (instant_zero t.ekf_set.since_ms j
    ++ (instant_zero t.ekf_clear.since_ms j
    ++ (instant_zero t.fence_breach_set.since_ms j
    ++ (instant_zero t.fence_breach_clear.since_ms j
    ++ (instant_zero t.alt_max_set.since_ms j
    ++ (instant_zero t.alt_max_clear.since_ms j
    ++ (instant_zero t.alt_min_set.since_ms j
    ++ (instant_zero t.alt_min_clear.since_ms j
    ++ (instant_zero t.stale_bat_clear.since_ms j
    ++ (instant_zero t.bat_warn_set.since_ms j
    ++ (instant_zero t.bat_warn_clear.since_ms j
    ++ (instant_zero t.bat_low_set.since_ms j
    ++ (instant_zero t.bat_low_clear.since_ms j
    ++ (instant_zero t.bat_crit_set.since_ms j
    ++ (instant_zero t.energy_marg_set.since_ms j
    ++ (instant_zero t.energy_marg_clear.since_ms j
    ++ (instant_zero t.energy_infeas_set.since_ms j
    ++ (instant_zero t.invalid_clear.since_ms j
    ++ (le_flag t.invalid_active
    ++ (instant_zero t.rc_lost_set.since_ms j
    ++ (le8 t.gcs_stage
    ++ (le_action x.arbiter.prev_output ++ (le_reason x.arbiter.prev_reason
    ++ (instant_zero x.arbiter.recovery_since_ms j
    ++ (instant_zero x.disarm.hold_since_ms j
    ++ (sample_zero x.glitch.last_accepted j
    ++ (le8 x.glitch.reject_streak
    ++ (instant_zero x.last_now j
    ++ (le_bytes 4 0
    ++ (le8 x.backwards_streak
    ++ le_flag x.initialized))))))))))))))))))))))))))))))))))))))

zero_word : (o : Option ℕ) → unwrap_or (instead 0 o) 0 < 2 ^ 32
zero_word None = lit< tt
zero_word (Some n) = lit< tt

zero_finite : (o : Option PositionSample) → finite_stored (position_at 0 o) ≡ finite_stored o
zero_finite None = refl
zero_finite (Some p) = refl

zero_typed : (x : Supervisor) → TypedWide x → Typed (supervisor_at zeroes x)
unfolding supervisor_at triggers_at
zero_typed x g =
    let t = x.triggers in
    record {
      timers = (zero_word t.gcs_clear_timer.since_ms, (zero_word t.rc_clear_timer.since_ms, (zero_word t.gps_deg_set.since_ms, (zero_word t.gps_deg_clear.since_ms, (zero_word t.gps_lost_set.since_ms, (zero_word t.gps_lost_clear.since_ms, (zero_word t.ekf_set.since_ms, (zero_word t.ekf_clear.since_ms, (zero_word t.fence_breach_set.since_ms, (zero_word t.fence_breach_clear.since_ms, (zero_word t.alt_max_set.since_ms, (zero_word t.alt_max_clear.since_ms, (zero_word t.alt_min_set.since_ms, (zero_word t.alt_min_clear.since_ms, (zero_word t.stale_bat_clear.since_ms, (zero_word t.bat_warn_set.since_ms, (zero_word t.bat_warn_clear.since_ms, (zero_word t.bat_low_set.since_ms, (zero_word t.bat_low_clear.since_ms, (zero_word t.bat_crit_set.since_ms, (zero_word t.energy_marg_set.since_ms, (zero_word t.energy_marg_clear.since_ms, (zero_word t.energy_infeas_set.since_ms, (zero_word t.invalid_clear.since_ms, (zero_word t.rc_lost_set.since_ms, tt)))))))))))))))))))))))));
      recovery = zero_word x.arbiter.recovery_since_ms;
      hold = zero_word x.disarm.hold_since_ms;
      stored = g.floats;
      last = zero_word x.last_now;
      epoch = lit< tt;
    }

zero_rules : (x : Supervisor) → Rules x → Rules (supervisor_at zeroes x)
unfolding supervisor_at triggers_at
zero_rules x r = record { stage = r.stage; streak = r.streak; stored = zero_finite x.glitch.last_accepted ∙ r.stored }

zero_fits : (x : Supervisor) → RaisedFits false x → RaisedFits false (supervisor_at zeroes x)
unfolding supervisor_at triggers_at
zero_fits x h = h

-- ---- its instants

triggers_back : (x : Supervisor) → TypedWide x → triggers_at (wide_instants (wide_state_frame x)).timer (triggers_at (λ n. 0) x.triggers) ≡ x.triggers
unfolding wide_instants instants_at unlisted triggers_at wide_state_frame instants_of listed widened state_gaps state_frame frame_head le_triggers le_links le_fence le_battery le_input le_timer le_arbiter le_action le_reason le_option_u32 le_option_position le_vec3 le_f32 le8 le16 le32 le_bytes le_flag u8_at number_at
triggers_back x g =
    let t = x.triggers in
    λ j.
    record {
      battery_critical_latched = t.battery_critical_latched;
      energy_infeasible_latched = t.energy_infeasible_latched;
      gcs_clear_timer = record { since_ms = instant_back t.gcs_clear_timer.since_ms (g.timers gcs_clear) j };
      rc_clear_timer = record { since_ms = instant_back t.rc_clear_timer.since_ms (g.timers rc_clear) j };
      gps_deg_set = record { since_ms = instant_back t.gps_deg_set.since_ms (g.timers gps_deg_set) j };
      gps_deg_clear = record { since_ms = instant_back t.gps_deg_clear.since_ms (g.timers gps_deg_clear) j };
      gps_lost_set = record { since_ms = instant_back t.gps_lost_set.since_ms (g.timers gps_lost_set) j };
      gps_lost_clear = record { since_ms = instant_back t.gps_lost_clear.since_ms (g.timers gps_lost_clear) j };
      ekf_set = record { since_ms = instant_back t.ekf_set.since_ms (g.timers ekf_set) j };
      ekf_clear = record { since_ms = instant_back t.ekf_clear.since_ms (g.timers ekf_clear) j };
      fence_breach_set = record { since_ms = instant_back t.fence_breach_set.since_ms (g.timers breach_set) j };
      fence_breach_clear = record { since_ms = instant_back t.fence_breach_clear.since_ms (g.timers breach_clear) j };
      alt_max_set = record { since_ms = instant_back t.alt_max_set.since_ms (g.timers alt_max_set) j };
      alt_max_clear = record { since_ms = instant_back t.alt_max_clear.since_ms (g.timers alt_max_clear) j };
      alt_min_set = record { since_ms = instant_back t.alt_min_set.since_ms (g.timers alt_min_set) j };
      alt_min_clear = record { since_ms = instant_back t.alt_min_clear.since_ms (g.timers alt_min_clear) j };
      stale_bat_clear = record { since_ms = instant_back t.stale_bat_clear.since_ms (g.timers stale_clear) j };
      bat_warn_set = record { since_ms = instant_back t.bat_warn_set.since_ms (g.timers warn_set) j };
      bat_warn_clear = record { since_ms = instant_back t.bat_warn_clear.since_ms (g.timers warn_clear) j };
      bat_low_set = record { since_ms = instant_back t.bat_low_set.since_ms (g.timers low_set) j };
      bat_low_clear = record { since_ms = instant_back t.bat_low_clear.since_ms (g.timers low_clear) j };
      bat_crit_set = record { since_ms = instant_back t.bat_crit_set.since_ms (g.timers crit_set) j };
      energy_marg_set = record { since_ms = instant_back t.energy_marg_set.since_ms (g.timers marg_set) j };
      energy_marg_clear = record { since_ms = instant_back t.energy_marg_clear.since_ms (g.timers marg_clear) j };
      energy_infeas_set = record { since_ms = instant_back t.energy_infeas_set.since_ms (g.timers infeas_set) j };
      invalid_clear = record { since_ms = instant_back t.invalid_clear.since_ms (g.timers invalid_clear) j };
      invalid_active = t.invalid_active;
      rc_lost_set = record { since_ms = instant_back t.rc_lost_set.since_ms (g.timers rc_set) j };
      gcs_stage = t.gcs_stage;
      raised = t.raised;
    }

state_back : (x : Supervisor) → TypedWide x → supervisor_at (wide_instants (wide_state_frame x)) (supervisor_at zeroes x) ≡ x
unfolding wide_instants instants_at unlisted supervisor_at wide_state_frame instants_of listed widened state_gaps state_frame frame_head le_triggers le_links le_fence le_battery le_input le_timer le_arbiter le_action le_reason le_option_u32 le_option_position le_vec3 le_f32 le8 le16 le32 le_bytes le_flag u8_at number_at
state_back x g =
    λ j.
    record {
      triggers = triggers_back x g j;
      arbiter =
          record {
            prev_output = x.arbiter.prev_output;
            prev_reason = x.arbiter.prev_reason;
            recovery_since_ms = instant_back x.arbiter.recovery_since_ms g.recovery j;
          };
      disarm = record { hold_since_ms = instant_back x.disarm.hold_since_ms g.hold j };
      glitch = record { last_accepted = sample_back x.glitch.last_accepted g.stored j; reject_streak = x.glitch.reject_streak };
      last_now = instant_back x.last_now g.last j;
      epoch_start = bytes_number 8 x.epoch_start g.epoch j;
      backwards_streak = x.backwards_streak;
      initialized = x.initialized;
    }

-- value, bytes, value
pub value_again : (x : Supervisor) → TypedWide x → Rules x → RaisedFits false x → read_wide_state (wide_state_frame x) ≡ Ok x
unfolding read_wide_state
value_again x g r h =
    let inner = ap (read_state false) (at_zero x) ∙ value_back false (supervisor_at zeroes x) (zero_typed x g) (zero_rules x r) (zero_fits x h) in
    simp (number_zero _ (head x), inner) (ap Ok (state_back x g))
