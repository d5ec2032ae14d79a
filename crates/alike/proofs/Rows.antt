-- The 64-bit step on the 32-bit code, from instants that are given beside a state, by `alike`. Assumes nothing.
use Rattle.std.specs.Prelude.{Option, Some, None, Float, Bool}
use Prim.Native.Nat.{ℕ, min}
use mathlib.Core.Path.{◌≡◌, refl, ap, sym, ◌∙◌}
use native.Mathlib.Omega.{arith}
use Rattle.types.specs.declared.Telemetry.{Telemetry}
use Rattle.time.specs.Time.{wrapping, plain, age, fresh, hold_met}
use Rattle.config.specs.declared.Config.{Config}
use Rattle.timers.specs.Timer.{started, since_or}
use Rattle.triggers.specs.Families.{gcs_age}
use Rattle.supervisor.specs.declared.Supervisor.{Supervisor}
use Rattle.supervisor.specs.declared.Stepped.{Stepped}
use Rattle.supervisor.specs.Settings.{base_settings, fed_at}
use Rattle.supervisor.specs.Step.{step}
use Rattle.instants.specs.Retimed.{instead, TimerName, gcs_clear, rc_clear, gps_deg_set, gps_deg_clear, gps_lost_set, gps_lost_clear, ekf_set, ekf_clear, breach_set, breach_clear, alt_max_set, alt_max_clear, alt_min_set, alt_min_clear, stale_clear, warn_set, warn_clear, low_set, low_clear, crit_set, marg_set, marg_clear, infeas_set, invalid_clear, rc_set, timer_of, hold_of, triggers_at, Instants, position_at, supervisor_at, Stamps, gps_at, value_at, flag_at, landed_at, telemetry_at, durations_of, stepped_at, instants_after}
use Rattle.instants.specs.Own.{position_stamp, gps_stamp, value_stamp, flag_stamp, landed_stamp}
use Rattle.marks.specs.Marks.{up_to2000, gap_now, sound_now, reading, held_mark, fresh_mark, gap_mark, marks_of, stamp_marks_of, marked_by}
use Rattle.alike.specs.Alike.{HoldAlike, FreshAlike, StateAlike, ReadAlike, settings}
use Rattle.alike.specs.Marked.{RowsClaim}
use Rattle.marks.proofs.Marks.{met_mark, starts, starts_plain, fresh_mark_lem, sound_mark, gap_mark_lem, above_mark_lem, within_mark_lem}
use Rattle.alike.proofs.Step.{alike}
use Rattle.alike.proofs.Own.{timer_at_lem}
use Rattle.types.specs.declared.Stamped.{Stamped}
use Rattle.types.specs.declared.LandedState.{LandedState}
use Rattle.types.specs.declared.PositionSample.{PositionSample}
use Rattle.types.specs.declared.GpsSample.{GpsSample}

-- ---- instants put in twice are those put in last

twice : (x y : ℕ) (o : Option ℕ) → instead x (instead y o) ≡ instead x o
twice x y None = refl
twice x y (Some z) = refl

twice_position : (x y : ℕ) (p : Option PositionSample) → position_at x (position_at y p) ≡ position_at x p
twice_position x y None = refl
twice_position x y (Some p) = refl

twice_gps : (x y : ℕ) (p : Option GpsSample) → gps_at x (gps_at y p) ≡ gps_at x p
twice_gps x y None = refl
twice_gps x y (Some p) = refl

twice_value : (x y : ℕ) (p : Option (Stamped Float)) → value_at x (value_at y p) ≡ value_at x p
twice_value x y None = refl
twice_value x y (Some r) = refl

twice_flag : (x y : ℕ) (p : Option (Stamped Bool)) → flag_at x (flag_at y p) ≡ flag_at x p
twice_flag x y None = refl
twice_flag x y (Some r) = refl

twice_landed : (x y : ℕ) (p : Option (Stamped LandedState)) → landed_at x (landed_at y p) ≡ landed_at x p
twice_landed x y None = refl
twice_landed x y (Some r) = refl

pub supervisor_twice : (i m : Instants) (y : Supervisor) → supervisor_at i (supervisor_at m y) ≡ supervisor_at i y
unfolding supervisor_at triggers_at
supervisor_twice i m y = simp (twice, twice_position)

pub telemetry_twice : (j m : Stamps) (u : Telemetry) → telemetry_at j (telemetry_at m u) ≡ telemetry_at j u
unfolding telemetry_at
telemetry_twice j m u = simp (twice, twice_position, twice_gps, twice_value, twice_flag, twice_landed)

-- the stamps of marked readings
position_at_lem : (x : ℕ) (p : Option PositionSample) → position_stamp (position_at x p) ≡ instead x (position_stamp p)
position_at_lem x None = refl
position_at_lem x (Some p) = refl

gps_at_lem : (x : ℕ) (p : Option GpsSample) → gps_stamp (gps_at x p) ≡ instead x (gps_stamp p)
gps_at_lem x None = refl
gps_at_lem x (Some p) = refl

value_at_lem : (x : ℕ) (p : Option (Stamped Float)) → value_stamp (value_at x p) ≡ instead x (value_stamp p)
value_at_lem x None = refl
value_at_lem x (Some r) = refl

flag_at_lem : (x : ℕ) (p : Option (Stamped Bool)) → flag_stamp (flag_at x p) ≡ instead x (flag_stamp p)
flag_at_lem x None = refl
flag_at_lem x (Some r) = refl

landed_at_lem : (x : ℕ) (p : Option (Stamped LandedState)) → landed_stamp (landed_at x p) ≡ instead x (landed_stamp p)
landed_at_lem x None = refl
landed_at_lem x (Some r) = refl

-- ---- each test comes out alike

hold_alike : (now hold x : ℕ) (o : Option ℕ) → let m = held_mark (hold_met plain now x hold) in HoldAlike wrapping plain reading now x (instead m o) (min hold 1) hold
hold_alike now hold x None = starts_plain now hold ∙ sym (starts hold)
hold_alike now hold x (Some y) = sym (met_mark (hold_met plain now x hold) (min hold 1) (omega arith))

fresh_alike : (now limit x : ℕ) (o : Option ℕ) → let m = fresh_mark (fresh plain now x limit) in FreshAlike wrapping plain reading now x (instead m o) limit limit
fresh_alike now limit x None = refl
fresh_alike now limit x (Some y) = sym (fresh_mark_lem (fresh plain now x limit) limit)

gap_alike : (now x : ℕ) (o : Option ℕ) → let m = gap_mark (up_to2000 (age plain now x)) in gap_now plain now (instead x (instead m o)) ≡ gap_now wrapping reading (instead m o)
gap_alike now x None = refl
gap_alike now x (Some y) = sym (gap_mark_lem (age plain now x))

sound_alike : (now x : ℕ) (o : Option ℕ) → let m = fresh_mark (started (age plain now x)) in sound_now plain now (instead x (instead m o)) ≡ sound_now wrapping reading (instead m o)
sound_alike now x None = refl
sound_alike now x (Some y) = sym (sound_mark (started (age plain now x)))

hold_at : (cfg : Config) (a : ℕ) (n : TimerName) → hold_of (marked_by cfg a) n ≡ min (hold_of cfg n) 1
unfolding marked_by
hold_at cfg a gcs_clear = refl
hold_at cfg a rc_clear = refl
hold_at cfg a gps_deg_set = refl
hold_at cfg a gps_deg_clear = refl
hold_at cfg a gps_lost_set = refl
hold_at cfg a gps_lost_clear = refl
hold_at cfg a ekf_set = refl
hold_at cfg a ekf_clear = refl
hold_at cfg a breach_set = refl
hold_at cfg a breach_clear = refl
hold_at cfg a alt_max_set = refl
hold_at cfg a alt_max_clear = refl
hold_at cfg a alt_min_set = refl
hold_at cfg a alt_min_clear = refl
hold_at cfg a stale_clear = refl
hold_at cfg a warn_set = refl
hold_at cfg a warn_clear = refl
hold_at cfg a low_set = refl
hold_at cfg a low_clear = refl
hold_at cfg a crit_set = refl
hold_at cfg a marg_set = refl
hold_at cfg a marg_clear = refl
hold_at cfg a infeas_set = refl
hold_at cfg a invalid_clear = refl
hold_at cfg a rc_set = refl

module _ (cfg : Config) (a now : ℕ) (y : Supervisor) (i : Instants) where
  timer_alike : (n : TimerName) → HoldAlike wrapping plain reading now (i.timer n) (timer_of (triggers_at (marks_of cfg now i).timer y.triggers) n).since_ms (hold_of (marked_by cfg a) n) (hold_of cfg n)
  unfolding marks_of
  timer_alike n = rw (timer_at_lem (marks_of cfg now i).timer y.triggers n, hold_at cfg a n) (hold_alike now (hold_of cfg n) (i.timer n) (timer_of y.triggers n).since_ms)

  state_alike : StateAlike wrapping plain (marked_by cfg a) cfg reading now (supervisor_at (marks_of cfg now i) y) i
  unfolding supervisor_at marks_of marked_by
  state_alike =
      record {
        timer = λ n. timer_alike n;
        recovery = hold_alike now cfg.recovery_hold_ms i.recovery y.arbiter.recovery_since_ms;
        gate = hold_alike now cfg.disarm_hold_ms i.gate y.disarm.hold_since_ms;
        stored = rw (position_at_lem (gap_mark (up_to2000 (age plain now i.stored))) y.glitch.last_accepted) (gap_alike now i.stored (position_stamp y.glitch.last_accepted));
        last = sound_alike now i.last y.last_now;
      }

module _ (cfg : Config) (u : Telemetry) (j : Stamps) where
  -- the heartbeat's age by its stamp, and the configuration that is marked by it
  abbrev pub age_at : ℕ
  age_at = gcs_age plain j.now (instead j.heartbeat u.gcs_heartbeat_ms)

  abbrev pub marked_at : Config
  marked_at = marked_by cfg age_at

  read_alike : ReadAlike wrapping plain marked_at cfg (telemetry_at (stamp_marks_of cfg j) u) j
  unfolding telemetry_at stamp_marks_of marked_by
  read_alike =
      record {
        position = rw position_at_lem (fresh_alike j.now cfg.pos_fresh_ms j.position (position_stamp u.position));
        gps = rw gps_at_lem (fresh_alike j.now cfg.gps_fresh_ms j.gps (gps_stamp u.gps));
        voltage = rw value_at_lem (fresh_alike j.now cfg.battery_fresh_ms j.voltage (value_stamp u.battery.voltage_v));
        percent = rw value_at_lem (fresh_alike j.now cfg.battery_fresh_ms j.percent (value_stamp u.battery.percent));
        remaining = rw value_at_lem (fresh_alike j.now cfg.battery_fresh_ms j.remaining (value_stamp u.battery.remaining_wh));
        armed = rw flag_at_lem (fresh_alike j.now cfg.status_fresh_ms j.armed (flag_stamp u.armed));
        landed = rw landed_at_lem (fresh_alike j.now cfg.status_fresh_ms j.landed (landed_stamp u.landed));
        rc = rw flag_at_lem (fresh_alike j.now cfg.status_fresh_ms j.rc (flag_stamp u.rc_ok));
        ekf = rw flag_at_lem (fresh_alike j.now cfg.status_fresh_ms j.ekf (flag_stamp u.ekf_ok));
        rtl = rw twice (above_mark_lem _ u.gcs_heartbeat_ms);
        hold = rw twice (above_mark_lem _ u.gcs_heartbeat_ms);
        warn = rw twice (above_mark_lem _ u.gcs_heartbeat_ms);
        clear = rw twice (within_mark_lem _ u.gcs_heartbeat_ms);
      }

config_back : (cfg : Config) (a : ℕ) → durations_of cfg (marked_by cfg a) ≡ cfg
unfolding durations_of marked_by
config_back cfg a = refl

-- what is there with other instants is there without
module _ (i m : Instants) (j : Stamps) (y : Supervisor) where
  timers_after_lem : (n : TimerName) → since_or (instead (i.timer n) (timer_of (triggers_at m.timer y.triggers) n).since_ms) j.now ≡ since_or (instead (i.timer n) (timer_of y.triggers n).since_ms) j.now
  timers_after_lem n = rw (timer_at_lem m.timer y.triggers n) (ap (λ o. since_or o j.now) (twice (i.timer n) (m.timer n) (timer_of y.triggers n).since_ms))

  pub after_twice : (r : Stepped) → instants_after i j (supervisor_at m y) r ≡ instants_after i j y r
  unfolding instants_after supervisor_at
  after_twice r =
      let recovers = ap (λ o. since_or o j.now) (twice i.recovery m.recovery y.arbiter.recovery_since_ms) in
      let opens = ap (λ o. since_or o j.now) (twice i.gate m.gate y.disarm.hold_since_ms) in
      λ k. record {
        timer = λ n. timers_after_lem n k;
        recovery = recovers k;
        gate = opens k;
        stored = (instants_after i j y r).stored;
        last = (instants_after i j y r).last;
        epoch = (instants_after i j y r).epoch;
      }

-- the theorem
pub rows_step : RowsClaim
unfolding stamp_marks_of telemetry_at
rows_step cfg site y i u j =
    let m = marks_of cfg j.now i in
    let n = stamp_marks_of cfg j in
    let c = marked_at cfg u j in
    let r = step (base_settings c) (supervisor_at m y) (fed_at site (telemetry_at n u)) in
    let to_marked : step (settings plain cfg) (supervisor_at i y) (fed_at site (telemetry_at j u)) ≡ step (settings plain (durations_of cfg c)) (supervisor_at i (supervisor_at m y)) (fed_at site (telemetry_at j (telemetry_at n u)))
    = λ k. step (settings plain (sym (config_back cfg (age_at cfg u j)) k)) (sym (supervisor_twice i m y) k) (fed_at site (sym (telemetry_twice j n u) k)) in
    to_marked
    ∙ alike wrapping plain c cfg site (supervisor_at m y) i (telemetry_at n u) j (state_alike cfg (age_at cfg u j) j.now y i) (read_alike cfg u j)
    ∙ ap (λ x. stepped_at x r) (after_twice i m j y r)
