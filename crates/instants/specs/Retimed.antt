-- Document 02, L7: a supervisor and telemetry with other instants, and a configuration with other durations. Assumes nothing.
-- All else, and which readings and timers are there, is the same. An instant is any number: nothing here bounds it.
use Rattle.std.specs.Prelude.{ℕ, Bool, not, ◌&&◌, cond, eqb, Option, Some, None, Float}
use Rattle.types.specs.declared.PositionSample.{PositionSample}
use Rattle.types.specs.declared.Telemetry.{Telemetry}
use Rattle.config.specs.declared.Config.{Config}
use Rattle.validate.specs.declared.GlitchState.{GlitchState}
use Rattle.timers.specs.declared.Timer.{Timer}
use Rattle.triggers.specs.declared.TriggerState.{TriggerState}
use Rattle.timers.specs.Timer.{since_or}
use Rattle.triggers.specs.Families.{is_present}
use Rattle.arbiter.specs.declared.ArbiterState.{ArbiterState}
use Rattle.disarm.specs.declared.DisarmGate.{DisarmGate}
use Rattle.supervisor.specs.declared.Supervisor.{Supervisor}
use Rattle.supervisor.specs.declared.Stepped.{Stepped}
use Rattle.types.specs.declared.Stamped.{Stamped}
use Rattle.types.specs.declared.LandedState.{LandedState}
use Rattle.types.specs.declared.GpsSample.{GpsSample}

-- an instant in the place of a held one
abbrev pub instead : ℕ → Option ℕ → Option ℕ
instead x None = None
instead x (Some y) = Some x

-- ---- the timers

-- one name for each of the 25
pub data TimerName : Type 0 where
  gcs_clear : TimerName
  rc_clear : TimerName
  gps_deg_set : TimerName
  gps_deg_clear : TimerName
  gps_lost_set : TimerName
  gps_lost_clear : TimerName
  ekf_set : TimerName
  ekf_clear : TimerName
  breach_set : TimerName
  breach_clear : TimerName
  alt_max_set : TimerName
  alt_max_clear : TimerName
  alt_min_set : TimerName
  alt_min_clear : TimerName
  stale_clear : TimerName
  warn_set : TimerName
  warn_clear : TimerName
  low_set : TimerName
  low_clear : TimerName
  crit_set : TimerName
  marg_set : TimerName
  marg_clear : TimerName
  infeas_set : TimerName
  invalid_clear : TimerName
  rc_set : TimerName

-- the timer of a name
abbrev pub timer_of : TriggerState → TimerName → Timer
timer_of s gcs_clear = s.gcs_clear_timer
timer_of s rc_clear = s.rc_clear_timer
timer_of s gps_deg_set = s.gps_deg_set
timer_of s gps_deg_clear = s.gps_deg_clear
timer_of s gps_lost_set = s.gps_lost_set
timer_of s gps_lost_clear = s.gps_lost_clear
timer_of s ekf_set = s.ekf_set
timer_of s ekf_clear = s.ekf_clear
timer_of s breach_set = s.fence_breach_set
timer_of s breach_clear = s.fence_breach_clear
timer_of s alt_max_set = s.alt_max_set
timer_of s alt_max_clear = s.alt_max_clear
timer_of s alt_min_set = s.alt_min_set
timer_of s alt_min_clear = s.alt_min_clear
timer_of s stale_clear = s.stale_bat_clear
timer_of s warn_set = s.bat_warn_set
timer_of s warn_clear = s.bat_warn_clear
timer_of s low_set = s.bat_low_set
timer_of s low_clear = s.bat_low_clear
timer_of s crit_set = s.bat_crit_set
timer_of s marg_set = s.energy_marg_set
timer_of s marg_clear = s.energy_marg_clear
timer_of s infeas_set = s.energy_infeas_set
timer_of s invalid_clear = s.invalid_clear
timer_of s rc_set = s.rc_lost_set

-- how long each has to hold
abbrev pub hold_of : Config → TimerName → ℕ
hold_of cfg gcs_clear = cfg.gcs_clear_hold_ms
hold_of cfg rc_clear = cfg.rc_lost_clear_ms
hold_of cfg gps_deg_set = cfg.gps_degraded_set_ms
hold_of cfg gps_deg_clear = cfg.gps_degraded_clear_ms
hold_of cfg gps_lost_set = cfg.gps_lost_set_ms
hold_of cfg gps_lost_clear = cfg.gps_lost_clear_ms
hold_of cfg ekf_set = cfg.ekf_unhealthy_set_ms
hold_of cfg ekf_clear = cfg.ekf_unhealthy_clear_ms
hold_of cfg breach_set = cfg.fence_breach_set_ms
hold_of cfg breach_clear = cfg.fence_breach_clear_ms
hold_of cfg alt_max_set = cfg.alt_max_set_ms
hold_of cfg alt_max_clear = cfg.alt_max_clear_hold_ms
hold_of cfg alt_min_set = cfg.alt_min_set_ms
hold_of cfg alt_min_clear = cfg.alt_min_clear_ms
hold_of cfg stale_clear = cfg.stale_battery_clear_ms
hold_of cfg warn_set = cfg.battery_warn_set_ms
hold_of cfg warn_clear = cfg.battery_warn_clear_ms
hold_of cfg low_set = cfg.battery_low_set_ms
hold_of cfg low_clear = cfg.battery_low_clear_ms
hold_of cfg crit_set = cfg.battery_critical_set_ms
hold_of cfg marg_set = cfg.energy_marginal_set_ms
hold_of cfg marg_clear = cfg.energy_marginal_clear_ms
hold_of cfg infeas_set = cfg.energy_infeasible_set_ms
hold_of cfg invalid_clear = cfg.invalid_input_clear_ms
hold_of cfg rc_set = cfg.rc_lost_set_ms

-- a timer that runs, from another instant
abbrev pub timer_at : ℕ → Timer → Timer
timer_at x t = record { since_ms = instead x t.since_ms }

-- the triggers with each timer at the instant of its name
unfoldable pub triggers_at : (TimerName → ℕ) → TriggerState → TriggerState
triggers_at i s =
    record {
      battery_critical_latched = s.battery_critical_latched;
      energy_infeasible_latched = s.energy_infeasible_latched;
      gcs_clear_timer = timer_at (i gcs_clear) s.gcs_clear_timer;
      rc_clear_timer = timer_at (i rc_clear) s.rc_clear_timer;
      gps_deg_set = timer_at (i gps_deg_set) s.gps_deg_set;
      gps_deg_clear = timer_at (i gps_deg_clear) s.gps_deg_clear;
      gps_lost_set = timer_at (i gps_lost_set) s.gps_lost_set;
      gps_lost_clear = timer_at (i gps_lost_clear) s.gps_lost_clear;
      ekf_set = timer_at (i ekf_set) s.ekf_set;
      ekf_clear = timer_at (i ekf_clear) s.ekf_clear;
      fence_breach_set = timer_at (i breach_set) s.fence_breach_set;
      fence_breach_clear = timer_at (i breach_clear) s.fence_breach_clear;
      alt_max_set = timer_at (i alt_max_set) s.alt_max_set;
      alt_max_clear = timer_at (i alt_max_clear) s.alt_max_clear;
      alt_min_set = timer_at (i alt_min_set) s.alt_min_set;
      alt_min_clear = timer_at (i alt_min_clear) s.alt_min_clear;
      stale_bat_clear = timer_at (i stale_clear) s.stale_bat_clear;
      bat_warn_set = timer_at (i warn_set) s.bat_warn_set;
      bat_warn_clear = timer_at (i warn_clear) s.bat_warn_clear;
      bat_low_set = timer_at (i low_set) s.bat_low_set;
      bat_low_clear = timer_at (i low_clear) s.bat_low_clear;
      bat_crit_set = timer_at (i crit_set) s.bat_crit_set;
      energy_marg_set = timer_at (i marg_set) s.energy_marg_set;
      energy_marg_clear = timer_at (i marg_clear) s.energy_marg_clear;
      energy_infeas_set = timer_at (i infeas_set) s.energy_infeas_set;
      invalid_clear = timer_at (i invalid_clear) s.invalid_clear;
      invalid_active = s.invalid_active;
      rc_lost_set = timer_at (i rc_set) s.rc_lost_set;
      gcs_stage = s.gcs_stage;
      raised = s.raised;
    }

-- ---- the state

-- "all instants" of a state: the timers, the recovery's start, the disarm hold, the stored sample's stamp, the last sound reading, the epoch
pub record Instants : Type 0 where
  pub timer : TimerName → ℕ
  pub recovery : ℕ
  pub gate : ℕ
  pub stored : ℕ
  pub last : ℕ
  pub epoch : ℕ

-- a sample with another stamp
abbrev pub sample_at : ℕ → PositionSample → PositionSample
sample_at x p = record { t_ms = x; pos = p.pos; vel = p.vel }

-- and one that may be absent
abbrev pub position_at : ℕ → Option PositionSample → Option PositionSample
position_at x None = None
position_at x (Some p) = Some (sample_at x p)

-- the filter, the arbiter and the gate
abbrev pub glitch_at : ℕ → GlitchState → GlitchState
glitch_at x g = record { last_accepted = position_at x g.last_accepted; reject_streak = g.reject_streak }

abbrev pub arbiter_at : ℕ → ArbiterState → ArbiterState
arbiter_at x a = record { prev_output = a.prev_output; prev_reason = a.prev_reason; recovery_since_ms = instead x a.recovery_since_ms }

abbrev pub gate_at : ℕ → DisarmGate → DisarmGate
gate_at x g = record { hold_since_ms = instead x g.hold_since_ms }

-- the whole state
unfoldable pub supervisor_at : Instants → Supervisor → Supervisor
supervisor_at i s =
    record {
      triggers = triggers_at i.timer s.triggers;
      arbiter = arbiter_at i.recovery s.arbiter;
      disarm = gate_at i.gate s.disarm;
      glitch = glitch_at i.stored s.glitch;
      last_now = instead i.last s.last_now;
      epoch_start = i.epoch;
      backwards_streak = s.backwards_streak;
      initialized = s.initialized;
    }

-- what a step answers: neither the Decision nor the side has an instant
unfoldable pub stepped_at : Instants → Stepped → Stepped
stepped_at i r = record { supervisor = supervisor_at i r.supervisor; decision = r.decision; side = r.side }

-- ---- telemetry

-- "all instants" of telemetry: the reading and ten stamps
pub record Stamps : Type 0 where
  pub now : ℕ
  pub position : ℕ
  pub gps : ℕ
  pub voltage : ℕ
  pub percent : ℕ
  pub remaining : ℕ
  pub heartbeat : ℕ
  pub armed : ℕ
  pub landed : ℕ
  pub rc : ℕ
  pub ekf : ℕ

-- readings with another stamp
abbrev pub gps_at : ℕ → Option GpsSample → Option GpsSample
gps_at x None = None
gps_at x (Some g) = Some (record { t_ms = x; fix = g.fix; sats = g.sats; hdop = g.hdop })

abbrev pub value_at : ℕ → Option (Stamped Float) → Option (Stamped Float)
value_at x None = None
value_at x (Some r) = Some (record { t_ms = x; value = r.value })

abbrev pub flag_at : ℕ → Option (Stamped Bool) → Option (Stamped Bool)
flag_at x None = None
flag_at x (Some r) = Some (record { t_ms = x; value = r.value })

abbrev pub landed_at : ℕ → Option (Stamped LandedState) → Option (Stamped LandedState)
landed_at x None = None
landed_at x (Some r) = Some (record { t_ms = x; value = r.value })

-- the whole of it
unfoldable pub telemetry_at : Stamps → Telemetry → Telemetry
telemetry_at j t =
    record {
      now_ms = j.now;
      position = position_at j.position t.position;
      gps = gps_at j.gps t.gps;
      battery =
          record {
            voltage_v = value_at j.voltage t.battery.voltage_v;
            percent = value_at j.percent t.battery.percent;
            remaining_wh = value_at j.remaining t.battery.remaining_wh;
          };
      gcs_heartbeat_ms = instead j.heartbeat t.gcs_heartbeat_ms;
      armed = flag_at j.armed t.armed;
      landed = landed_at j.landed t.landed;
      rc_ok = flag_at j.rc t.rc_ok;
      ekf_ok = flag_at j.ekf t.ekf_ok;
    }

-- ---- the configuration

-- the durations of `d`, all else of `cfg`
unfoldable pub durations_of : Config → Config → Config
durations_of d cfg =
    record {
      cell_count = cfg.cell_count;
      usable_capacity_wh = cfg.usable_capacity_wh;
      rc_required = cfg.rc_required;
      pos_fresh_ms = d.pos_fresh_ms;
      gps_fresh_ms = d.gps_fresh_ms;
      status_fresh_ms = d.status_fresh_ms;
      battery_fresh_ms = d.battery_fresh_ms;
      recovery_hold_ms = d.recovery_hold_ms;
      gcs_warn_ms = d.gcs_warn_ms;
      gcs_hold_ms = d.gcs_hold_ms;
      gcs_rtl_ms = d.gcs_rtl_ms;
      gcs_clear_ms = d.gcs_clear_ms;
      gcs_clear_hold_ms = d.gcs_clear_hold_ms;
      rc_lost_set_ms = d.rc_lost_set_ms;
      rc_lost_clear_ms = d.rc_lost_clear_ms;
      gps_degraded_set_ms = d.gps_degraded_set_ms;
      gps_degraded_clear_ms = d.gps_degraded_clear_ms;
      gps_lost_set_ms = d.gps_lost_set_ms;
      gps_lost_clear_ms = d.gps_lost_clear_ms;
      ekf_unhealthy_set_ms = d.ekf_unhealthy_set_ms;
      ekf_unhealthy_clear_ms = d.ekf_unhealthy_clear_ms;
      fence_approach_m = cfg.fence_approach_m;
      fence_approach_clear_m = cfg.fence_approach_clear_m;
      fence_breach_set_ms = d.fence_breach_set_ms;
      fence_breach_clear_m = cfg.fence_breach_clear_m;
      fence_breach_clear_ms = d.fence_breach_clear_ms;
      alt_max_clear_m = cfg.alt_max_clear_m;
      alt_max_set_ms = d.alt_max_set_ms;
      alt_max_clear_hold_ms = d.alt_max_clear_hold_ms;
      alt_min_home_radius_m = cfg.alt_min_home_radius_m;
      alt_min_set_ms = d.alt_min_set_ms;
      alt_min_clear_m = cfg.alt_min_clear_m;
      alt_min_clear_ms = d.alt_min_clear_ms;
      stale_battery_clear_ms = d.stale_battery_clear_ms;
      battery_warn_pct = cfg.battery_warn_pct;
      battery_warn_clear_pct = cfg.battery_warn_clear_pct;
      battery_warn_set_ms = d.battery_warn_set_ms;
      battery_warn_clear_ms = d.battery_warn_clear_ms;
      battery_low_pct = cfg.battery_low_pct;
      battery_low_clear_pct = cfg.battery_low_clear_pct;
      battery_low_set_ms = d.battery_low_set_ms;
      battery_low_clear_ms = d.battery_low_clear_ms;
      battery_critical_pct = cfg.battery_critical_pct;
      battery_critical_v_per_cell = cfg.battery_critical_v_per_cell;
      battery_critical_set_ms = d.battery_critical_set_ms;
      energy_marginal_wh = cfg.energy_marginal_wh;
      energy_marginal_clear_wh = cfg.energy_marginal_clear_wh;
      energy_marginal_set_ms = d.energy_marginal_set_ms;
      energy_marginal_clear_ms = d.energy_marginal_clear_ms;
      energy_infeasible_set_ms = d.energy_infeasible_set_ms;
      invalid_input_clear_ms = d.invalid_input_clear_ms;
      disarm_hold_ms = d.disarm_hold_ms;
      v_cruise = cfg.v_cruise;
      p_cruise = cfg.p_cruise;
      k_wind = cfg.k_wind;
      v_climb = cfg.v_climb;
      p_climb = cfg.p_climb;
      v_desc = cfg.v_desc;
      p_desc = cfg.p_desc;
      h_rtl = cfg.h_rtl;
      reserve_wh = cfg.reserve_wh;
      v_max = cfg.v_max;
      keeps_raised = cfg.keeps_raised;
    }

-- ---- the instants after a step

-- one that was there is kept, and one that begins takes the reading
abbrev pub onwards : ℕ → ℕ → Option ℕ → ℕ
onwards now x before = since_or (instead x before) now

-- so for each timer
abbrev pub timers_after : ℕ → (TimerName → ℕ) → TriggerState → TimerName → ℕ
timers_after now i s n = onwards now (i n) (timer_of s n).since_ms

-- a third fault in a row begins the count anew
abbrev pub third_fault : Stepped → Bool
third_fault r = r.decision.clock_fault && eqb r.supervisor.backwards_streak 0

-- by the state before and the step that was made; a sample was left, and stored, where the Decision has a distance
unfoldable pub instants_after : Instants → Stamps → Supervisor → Stepped → Instants
instants_after i j s r =
    record {
      timer = timers_after j.now i.timer s.triggers;
      recovery = onwards j.now i.recovery s.arbiter.recovery_since_ms;
      gate = onwards j.now i.gate s.disarm.hold_since_ms;
      stored = cond (is_present r.decision.fence_dist_m) j.position i.stored;
      last = cond r.decision.clock_fault i.last j.now;
      epoch = cond (s.initialized && not (third_fault r)) i.epoch j.now;
    }
