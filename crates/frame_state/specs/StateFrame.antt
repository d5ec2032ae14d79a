-- Kind 5, state: "Supervisor without cfg and fence", "Body fields stand in the Rust's declared order". Document 02, L11, of a flight whose configuration is
-- of kind 11: "Its state is kind 12: kind 5 with eight further bool bytes". Everywhere here `keeps` is whether it is a kind 12. Assumes nothing.
use Rattle.std.specs.Prelude.{ℕ, zero, suc, ◌+◌, ◌*◌, ◌^◌, ◌<◌, List, [], ◌∷◌, ◌++◌, Bool, true, cond, ◌&&◌, unwrap_or, Result, Ok, Err}
use Rattle.std.specs.Result.{result_and}
use Rattle.timers.specs.declared.Timer.{Timer}
use Rattle.triggers.specs.declared.Raised.{Raised}
use Rattle.triggers.specs.declared.TriggerState.{TriggerState}
use Rattle.triggers.specs.Update.{none_raised}
use Rattle.arbiter.specs.declared.ArbiterState.{ArbiterState}
use Rattle.supervisor.specs.declared.Supervisor.{Supervisor}
use Rattle.supervisor.specs.Rules.{finite_stored}
use Rattle.wire.specs.Fields.{u8_at, flag_at, u32_at, byte_below, le8, le_flag, le32}
use Rattle.wire.specs.Cell.{Cell, u32, Within}
use Rattle.wire.specs.declared.FrameError.{FrameError}
use Rattle.wire.specs.Frame.{check_frame, frame_head, all_true}
use Rattle.options.specs.Options.{valid_option, option_u32_at, le_option_u32}
use Rattle.options.specs.Position.{option_position_at, le_option_position, position_cells}
use Rattle.options.specs.Enums.{action_at, reason_at, le_action, le_reason}

abbrev pub state_kind : Bool → ℕ
state_kind keeps = cond keeps 12 5

-- the bytes of kind and body
abbrev pub state_length : Bool → ℕ
state_length keeps = cond keeps 192 184

-- a timer is a struct of one Option
unfoldable pub timer_at : List ℕ → ℕ → Timer
timer_at s i = record { since_ms = option_u32_at s i }

-- the fields in their places, after the four bytes of the head
unfoldable pub triggers_at : List ℕ → Raised → TriggerState
triggers_at s raised =
    record {
      battery_critical_latched = flag_at s 4;
      energy_infeasible_latched = flag_at s 5;
      gcs_clear_timer = timer_at s 6;
      rc_clear_timer = timer_at s 11;
      gps_deg_set = timer_at s 16;
      gps_deg_clear = timer_at s 21;
      gps_lost_set = timer_at s 26;
      gps_lost_clear = timer_at s 31;
      ekf_set = timer_at s 36;
      ekf_clear = timer_at s 41;
      fence_breach_set = timer_at s 46;
      fence_breach_clear = timer_at s 51;
      alt_max_set = timer_at s 56;
      alt_max_clear = timer_at s 61;
      alt_min_set = timer_at s 66;
      alt_min_clear = timer_at s 71;
      stale_bat_clear = timer_at s 76;
      bat_warn_set = timer_at s 81;
      bat_warn_clear = timer_at s 86;
      bat_low_set = timer_at s 91;
      bat_low_clear = timer_at s 96;
      bat_crit_set = timer_at s 101;
      energy_marg_set = timer_at s 106;
      energy_marg_clear = timer_at s 111;
      energy_infeas_set = timer_at s 116;
      invalid_clear = timer_at s 121;
      invalid_active = flag_at s 126;
      rc_lost_set = timer_at s 127;
      gcs_stage = u8_at s 132;
      raised = raised;
    }

unfoldable pub arbiter_at : List ℕ → ArbiterState
arbiter_at s = record { prev_output = action_at s 133; prev_reason = reason_at s 134; recovery_since_ms = option_u32_at s 135 }

unfoldable pub state_at : List ℕ → Raised → Supervisor
state_at s raised =
    record {
      triggers = triggers_at s raised;
      arbiter = arbiter_at s;
      disarm = record { hold_since_ms = option_u32_at s 140 };
      glitch = record { last_accepted = option_position_at s 145; reject_streak = u8_at s 174 };
      last_now = option_u32_at s 175;
      epoch_start = u32_at s 180;
      backwards_streak = u8_at s 184;
      initialized = flag_at s 185;
    }

-- the first n of the 24 timers that stand one after the other from byte 6 on
unfoldable pub timers_valid : List ℕ → ℕ → Bool
timers_valid s zero = true
timers_valid s (suc n) = timers_valid s n && valid_option s (6 + 5 * n) 4

-- "flag or enum byte out of range; absent value not zero; in state also gcs_stage above 3, backwards_streak above 2, a number of the stored position or
-- velocity not finite", beside those timers
abbrev pub state_tests : List ℕ → List Bool
state_tests s =
    byte_below s 4 2 ∷
    byte_below s 5 2 ∷
    byte_below s 126 2 ∷
    valid_option s 127 4 ∷
    byte_below s 132 4 ∷
    byte_below s 133 5 ∷
    byte_below s 134 19 ∷
    valid_option s 135 4 ∷
    valid_option s 140 4 ∷
    valid_option s 145 28 ∷
    finite_stored (option_position_at s 145) ∷
    valid_option s 175 4 ∷
    byte_below s 184 3 ∷
    byte_below s 185 2 ∷
    []

unfoldable pub state_valid : List ℕ → Bool
state_valid s = all_true (timers_valid s 24) (state_tests s)

-- "eight further bool bytes in the order above", behind the bytes of a kind 5
unfoldable pub raised_at : List ℕ → Raised
raised_at s =
    record {
      gps_degraded = flag_at s 186;
      gps_lost = flag_at s 187;
      ekf_unhealthy = flag_at s 188;
      fence_breach = flag_at s 189;
      altitude_min = flag_at s 190;
      battery_warn = flag_at s 191;
      battery_low = flag_at s 192;
      energy_rtl_marginal = flag_at s 193;
    }

abbrev pub raised_tests : List ℕ → List Bool
raised_tests s =
    byte_below s 187 2 ∷
    byte_below s 188 2 ∷
    byte_below s 189 2 ∷
    byte_below s 190 2 ∷
    byte_below s 191 2 ∷
    byte_below s 192 2 ∷
    byte_below s 193 2 ∷
    []

-- a kind 5 has none of them, and nothing is raised
unfoldable pub raised_read : Bool → List ℕ → Raised
raised_read keeps s = cond keeps (raised_at s) none_raised

unfoldable pub raised_valid : Bool → List ℕ → Bool
raised_valid keeps s = cond keeps (all_true (byte_below s 186 2) (raised_tests s)) true

-- the frame read: the head, then each field's range
unfoldable pub read_state : Bool → List ℕ → Result Supervisor FrameError
read_state keeps s =
    result_and (check_frame (state_kind keeps) (state_length keeps) s)
    (cond (state_valid s && raised_valid keeps s) (Ok (state_at s (raised_read keeps s))) (Err FrameError.OutOfRange))

unfoldable pub le_timer : Timer → List ℕ
le_timer t = le_option_u32 t.since_ms

-- the triggers' fields, in four parts
unfoldable pub le_links : TriggerState → List ℕ
le_links t =
    le_flag t.battery_critical_latched ++
    (le_flag t.energy_infeasible_latched ++
    (le_timer t.gcs_clear_timer ++
    (le_timer t.rc_clear_timer ++
    (le_timer t.gps_deg_set ++
    (le_timer t.gps_deg_clear ++
    (le_timer t.gps_lost_set ++
    (le_timer t.gps_lost_clear ++
    (le_timer t.ekf_set ++
    (le_timer t.ekf_clear)))))))))

unfoldable pub le_fence : TriggerState → List ℕ
le_fence t =
    le_timer t.fence_breach_set ++
    (le_timer t.fence_breach_clear ++
    (le_timer t.alt_max_set ++
    (le_timer t.alt_max_clear ++
    (le_timer t.alt_min_set ++
    (le_timer t.alt_min_clear)))))

unfoldable pub le_battery : TriggerState → List ℕ
le_battery t =
    le_timer t.stale_bat_clear ++
    (le_timer t.bat_warn_set ++
    (le_timer t.bat_warn_clear ++
    (le_timer t.bat_low_set ++
    (le_timer t.bat_low_clear ++
    (le_timer t.bat_crit_set ++
    (le_timer t.energy_marg_set ++
    (le_timer t.energy_marg_clear ++
    (le_timer t.energy_infeas_set))))))))

unfoldable pub le_input : TriggerState → List ℕ
le_input t =
    le_timer t.invalid_clear ++
    (le_flag t.invalid_active ++
    (le_timer t.rc_lost_set ++
    (le8 t.gcs_stage)))

unfoldable pub le_triggers : TriggerState → List ℕ
le_triggers t = le_links t ++ (le_fence t ++ (le_battery t ++ le_input t))

unfoldable pub le_arbiter : ArbiterState → List ℕ
le_arbiter a = le_action a.prev_output ++ (le_reason a.prev_reason ++ le_option_u32 a.recovery_since_ms)

unfoldable pub le_raised : Raised → List ℕ
le_raised r =
    le_flag r.gps_degraded ++
    (le_flag r.gps_lost ++
    (le_flag r.ekf_unhealthy ++
    (le_flag r.fence_breach ++
    (le_flag r.altitude_min ++
    (le_flag r.battery_warn ++
    (le_flag r.battery_low ++
    le_flag r.energy_rtl_marginal))))))

abbrev pub le_kept : Bool → Raised → List ℕ
le_kept keeps r = cond keeps (le_raised r) []

-- the whole frame
unfoldable pub state_frame : Bool → Supervisor → List ℕ
state_frame keeps x =
    frame_head (state_kind keeps) (state_length keeps) ++
    (le_triggers x.triggers ++
    (le_arbiter x.arbiter ++
    (le_option_u32 x.disarm.hold_since_ms ++
    (le_option_position x.glitch.last_accepted ++
    (le8 x.glitch.reject_streak ++
    (le_option_u32 x.last_now ++
    (le32 x.epoch_start ++
    (le8 x.backwards_streak ++
    (le_flag x.initialized ++
    le_kept keeps x.triggers.raised)))))))))

-- the numbers of the timers, 0 for an absent one
abbrev pub timer_cells : TriggerState → List Cell
timer_cells t =
    u32 (unwrap_or t.gcs_clear_timer.since_ms 0) ∷
    u32 (unwrap_or t.rc_clear_timer.since_ms 0) ∷
    u32 (unwrap_or t.gps_deg_set.since_ms 0) ∷
    u32 (unwrap_or t.gps_deg_clear.since_ms 0) ∷
    u32 (unwrap_or t.gps_lost_set.since_ms 0) ∷
    u32 (unwrap_or t.gps_lost_clear.since_ms 0) ∷
    u32 (unwrap_or t.ekf_set.since_ms 0) ∷
    u32 (unwrap_or t.ekf_clear.since_ms 0) ∷
    u32 (unwrap_or t.fence_breach_set.since_ms 0) ∷
    u32 (unwrap_or t.fence_breach_clear.since_ms 0) ∷
    u32 (unwrap_or t.alt_max_set.since_ms 0) ∷
    u32 (unwrap_or t.alt_max_clear.since_ms 0) ∷
    u32 (unwrap_or t.alt_min_set.since_ms 0) ∷
    u32 (unwrap_or t.alt_min_clear.since_ms 0) ∷
    u32 (unwrap_or t.stale_bat_clear.since_ms 0) ∷
    u32 (unwrap_or t.bat_warn_set.since_ms 0) ∷
    u32 (unwrap_or t.bat_warn_clear.since_ms 0) ∷
    u32 (unwrap_or t.bat_low_set.since_ms 0) ∷
    u32 (unwrap_or t.bat_low_clear.since_ms 0) ∷
    u32 (unwrap_or t.bat_crit_set.since_ms 0) ∷
    u32 (unwrap_or t.energy_marg_set.since_ms 0) ∷
    u32 (unwrap_or t.energy_marg_clear.since_ms 0) ∷
    u32 (unwrap_or t.energy_infeas_set.since_ms 0) ∷
    u32 (unwrap_or t.invalid_clear.since_ms 0) ∷
    u32 (unwrap_or t.rc_lost_set.since_ms 0) ∷
    []

-- what each state in a program has by its type: numbers of 32 bits, and floats of binary32
pub record Typed (x : Supervisor) : Type 0 where
  pub timers : Within (timer_cells x.triggers)
  pub recovery : unwrap_or x.arbiter.recovery_since_ms 0 < 2 ^ 32
  pub hold : unwrap_or x.disarm.hold_since_ms 0 < 2 ^ 32
  pub stored : Within (position_cells x.glitch.last_accepted)
  pub last : unwrap_or x.last_now 0 < 2 ^ 32
  pub epoch : x.epoch_start < 2 ^ 32
