-- Document 02, L4, for one step: what is left of telemetry without rc_ok, and of a state without the RC clear timer. Assumes nothing.
use Rattle.std.specs.Prelude.{false, ◌≡◌, None}
use Rattle.types.specs.declared.Telemetry.{Telemetry}
use Rattle.timers.specs.Timer.{cleared}
use Rattle.triggers.specs.declared.TriggerState.{TriggerState}
use Rattle.supervisor.specs.declared.Supervisor.{Supervisor}
use Rattle.supervisor.specs.declared.Stepped.{Stepped}
use Rattle.supervisor.specs.Settings.{Settings, Fed, fed_at}
use Rattle.supervisor.specs.Step.{step}

-- "everything but rc_ok": the same telemetry with that reading absent
unfoldable pub without_rc : Telemetry → Telemetry
without_rc t =
    record {
      now_ms = t.now_ms;
      position = t.position;
      gps = t.gps;
      battery = t.battery;
      gcs_heartbeat_ms = t.gcs_heartbeat_ms;
      armed = t.armed;
      landed = t.landed;
      rc_ok = None;
      ekf_ok = t.ekf_ok;
    }

-- "the RC clear timer and nowhere else": the same triggers with that timer cleared
unfoldable pub without_rc_timer : TriggerState → TriggerState
without_rc_timer s =
    record {
      battery_critical_latched = s.battery_critical_latched;
      energy_infeasible_latched = s.energy_infeasible_latched;
      gcs_clear_timer = s.gcs_clear_timer;
      rc_clear_timer = cleared;
      gps_deg_set = s.gps_deg_set;
      gps_deg_clear = s.gps_deg_clear;
      gps_lost_set = s.gps_lost_set;
      gps_lost_clear = s.gps_lost_clear;
      ekf_set = s.ekf_set;
      ekf_clear = s.ekf_clear;
      fence_breach_set = s.fence_breach_set;
      fence_breach_clear = s.fence_breach_clear;
      alt_max_set = s.alt_max_set;
      alt_max_clear = s.alt_max_clear;
      alt_min_set = s.alt_min_set;
      alt_min_clear = s.alt_min_clear;
      stale_bat_clear = s.stale_bat_clear;
      bat_warn_set = s.bat_warn_set;
      bat_warn_clear = s.bat_warn_clear;
      bat_low_set = s.bat_low_set;
      bat_low_clear = s.bat_low_clear;
      bat_crit_set = s.bat_crit_set;
      energy_marg_set = s.energy_marg_set;
      energy_marg_clear = s.energy_marg_clear;
      energy_infeas_set = s.energy_infeas_set;
      invalid_clear = s.invalid_clear;
      invalid_active = s.invalid_active;
      rc_lost_set = s.rc_lost_set;
      gcs_stage = s.gcs_stage;
      raised = s.raised;
    }

unfoldable pub without_rc_clear : Supervisor → Supervisor
without_rc_clear s =
    record {
      triggers = without_rc_timer s.triggers;
      arbiter = s.arbiter;
      disarm = s.disarm;
      glitch = s.glitch;
      last_now = s.last_now;
      epoch_start = s.epoch_start;
      backwards_streak = s.backwards_streak;
      initialized = s.initialized;
    }

-- two steps that show the same, and leave the same but for that timer
pub record SameStep (a b : Stepped) : Type 0 where
  pub decision : a.decision ≡ b.decision
  pub side : a.side ≡ b.side
  pub state : without_rc_clear a.supervisor ≡ without_rc_clear b.supervisor

-- where rc_required is false no step reads rc_ok or the RC clear timer, but for that timer itself: on any clock, of any state
abbrev pub StepClaim : Type 0
StepClaim =
    (r : Settings) → r.cfg.rc_required ≡ false
    → (s : Supervisor) (fed : Fed)
    → SameStep (step r s fed) (step r (without_rc_clear s) (fed_at fed.site (without_rc fed.telemetry)))
