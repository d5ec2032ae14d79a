-- A step over its own instants: so each is kept, is the reading, or is gone. Assumes nothing.
use Rattle.std.specs.Prelude.{Option, Some, None, Float, Bool}
use Prim.Native.Nat.{ℕ}
use mathlib.Core.Path.{◌≡◌, refl, ap, ap₂, sym, ◌∙◌}
use lib.Dec.{leb, ltb}
use Rattle.types.specs.declared.Telemetry.{Telemetry}
use Rattle.time.specs.Time.{Clock}
use Rattle.config.specs.declared.Config.{Config}
use Rattle.triggers.specs.declared.TriggerState.{TriggerState}
use Rattle.triggers.specs.Families.{gcs_age}
use Rattle.supervisor.specs.declared.Supervisor.{Supervisor}
use Rattle.supervisor.specs.declared.Stepped.{Stepped}
use Rattle.supervisor.specs.Settings.{Site, fed_at}
use Rattle.supervisor.specs.Step.{step}
use Rattle.instants.specs.Retimed.{instead, timer_at, TimerName, gcs_clear, rc_clear, gps_deg_set, gps_deg_clear, gps_lost_set, gps_lost_clear, ekf_set, ekf_clear, breach_set, breach_clear, alt_max_set, alt_max_clear, alt_min_set, alt_min_clear, stale_clear, warn_set, warn_clear, low_set, low_clear, crit_set, marg_set, marg_clear, infeas_set, invalid_clear, rc_set, timer_of, hold_of, triggers_at, position_at, supervisor_at, stepped_at, gps_at, value_at, flag_at, landed_at, telemetry_at, durations_of, instants_after}
use Rattle.instants.specs.Own.{position_stamp, gps_stamp, value_stamp, flag_stamp, landed_stamp, own, instants_of, stamps_of}
use Rattle.marks.specs.Marks.{held_now, fresh_now, sound_now, gap_now}
use Rattle.alike.specs.Alike.{StateAlike, ReadAlike, settings}
use Rattle.alike.proofs.Step.{alike}
use Rattle.types.specs.declared.Stamped.{Stamped}
use Rattle.types.specs.declared.LandedState.{LandedState}
use Rattle.types.specs.declared.PositionSample.{PositionSample}
use Rattle.types.specs.declared.GpsSample.{GpsSample}

pub own_is : (o : Option ℕ) → instead (own o) o ≡ o
own_is None = refl
own_is (Some y) = refl

own_position : (p : Option PositionSample) → position_at (own (position_stamp p)) p ≡ p
own_position None = refl
own_position (Some p) = refl

own_gps : (p : Option GpsSample) → gps_at (own (gps_stamp p)) p ≡ p
own_gps None = refl
own_gps (Some p) = refl

own_value : (p : Option (Stamped Float)) → value_at (own (value_stamp p)) p ≡ p
own_value None = refl
own_value (Some r) = refl

own_flag : (p : Option (Stamped Bool)) → flag_at (own (flag_stamp p)) p ≡ p
own_flag None = refl
own_flag (Some r) = refl

own_landed : (p : Option (Stamped LandedState)) → landed_at (own (landed_stamp p)) p ≡ p
own_landed None = refl
own_landed (Some r) = refl

pub own_state : (s : Supervisor) → supervisor_at (instants_of s) s ≡ s
unfolding supervisor_at triggers_at instants_of
own_state s = simp (own_is, own_position)

pub own_read : (t : Telemetry) → telemetry_at (stamps_of t) t ≡ t
unfolding telemetry_at stamps_of
own_read t = simp (own_is, own_position, own_gps, own_value, own_flag, own_landed)

pub own_durations : (cfg : Config) → durations_of cfg cfg ≡ cfg
unfolding durations_of
own_durations cfg = refl

module _ (ck : Clock) (cfg : Config) (s : Supervisor) (t : Telemetry) where
  state_alike : StateAlike ck ck cfg cfg t.now_ms t.now_ms s (instants_of s)
  unfolding instants_of
  state_alike =
      record {
        timer = λ n. ap (λ o. held_now ck t.now_ms o (hold_of cfg n)) (own_is (timer_of s.triggers n).since_ms);
        recovery = ap (λ o. held_now ck t.now_ms o cfg.recovery_hold_ms) (own_is s.arbiter.recovery_since_ms);
        gate = ap (λ o. held_now ck t.now_ms o cfg.disarm_hold_ms) (own_is s.disarm.hold_since_ms);
        stored = ap (gap_now ck t.now_ms) (own_is (position_stamp s.glitch.last_accepted));
        last = ap (sound_now ck t.now_ms) (own_is s.last_now);
      }

  fresh : (o : Option ℕ) (limit : ℕ) → fresh_now ck t.now_ms (instead (own o) o) limit ≡ fresh_now ck t.now_ms o limit
  fresh o limit = ap (λ x. fresh_now ck t.now_ms x limit) (own_is o)

  read_alike : ReadAlike ck ck cfg cfg t (stamps_of t)
  unfolding stamps_of
  read_alike =
      record {
        position = fresh (position_stamp t.position) cfg.pos_fresh_ms;
        gps = fresh (gps_stamp t.gps) cfg.gps_fresh_ms;
        voltage = fresh (value_stamp t.battery.voltage_v) cfg.battery_fresh_ms;
        percent = fresh (value_stamp t.battery.percent) cfg.battery_fresh_ms;
        remaining = fresh (value_stamp t.battery.remaining_wh) cfg.battery_fresh_ms;
        armed = fresh (flag_stamp t.armed) cfg.status_fresh_ms;
        landed = fresh (landed_stamp t.landed) cfg.status_fresh_ms;
        rc = fresh (flag_stamp t.rc_ok) cfg.status_fresh_ms;
        ekf = fresh (flag_stamp t.ekf_ok) cfg.status_fresh_ms;
        rtl = ap (λ o. ltb cfg.gcs_rtl_ms (gcs_age ck t.now_ms o)) (own_is t.gcs_heartbeat_ms);
        hold = ap (λ o. ltb cfg.gcs_hold_ms (gcs_age ck t.now_ms o)) (own_is t.gcs_heartbeat_ms);
        warn = ap (λ o. ltb cfg.gcs_warn_ms (gcs_age ck t.now_ms o)) (own_is t.gcs_heartbeat_ms);
        clear = ap (λ o. leb (gcs_age ck t.now_ms o) cfg.gcs_clear_ms) (own_is t.gcs_heartbeat_ms);
      }

  module _ (site : Site) where
    abbrev pub stepped : Stepped
    stepped = step (settings ck cfg) s (fed_at site t)

    pub own_step : stepped ≡ stepped_at (instants_after (instants_of s) (stamps_of t) s stepped) stepped
    unfolding stamps_of durations_of
    own_step = sym (ap₂ (λ u r. step (settings ck cfg) u (fed_at site r)) (own_state s) (own_read t)) ∙ alike ck ck cfg cfg site s (instants_of s) t (stamps_of t) state_alike read_alike

pub timer_at_lem : (i : TimerName → ℕ) (s : TriggerState) (n : TimerName) → timer_of (triggers_at i s) n ≡ timer_at (i n) (timer_of s n)
unfolding triggers_at
timer_at_lem i s gcs_clear = refl
timer_at_lem i s rc_clear = refl
timer_at_lem i s gps_deg_set = refl
timer_at_lem i s gps_deg_clear = refl
timer_at_lem i s gps_lost_set = refl
timer_at_lem i s gps_lost_clear = refl
timer_at_lem i s ekf_set = refl
timer_at_lem i s ekf_clear = refl
timer_at_lem i s breach_set = refl
timer_at_lem i s breach_clear = refl
timer_at_lem i s alt_max_set = refl
timer_at_lem i s alt_max_clear = refl
timer_at_lem i s alt_min_set = refl
timer_at_lem i s alt_min_clear = refl
timer_at_lem i s stale_clear = refl
timer_at_lem i s warn_set = refl
timer_at_lem i s warn_clear = refl
timer_at_lem i s low_set = refl
timer_at_lem i s low_clear = refl
timer_at_lem i s crit_set = refl
timer_at_lem i s marg_set = refl
timer_at_lem i s marg_clear = refl
timer_at_lem i s infeas_set = refl
timer_at_lem i s invalid_clear = refl
timer_at_lem i s rc_set = refl
