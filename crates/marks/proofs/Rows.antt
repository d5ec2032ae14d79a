-- The marks of instants in a row are those of the state and telemetry that hold them; a row is read back; each mark is below 2 ^ 32. Assumes nothing.
use Rattle.std.specs.Prelude.{Option, Some, None, Float}
use Prim.Native.Nat.{ℕ, ◌^◌, ◌<◌}
use mathlib.Core.Path.{◌≡◌, refl}
use mathlib.Core.Bool.{Bool, true, false}
use native.Mathlib.Omega.{arith}
use lib.ListN.{get_or}
use Rattle.types.specs.declared.Telemetry.{Telemetry}
use Rattle.time.specs.Time.{plain, age, fresh, hold_met}
use Rattle.timers.specs.Timer.{started}
use Rattle.config.specs.declared.Config.{Config}
use Rattle.supervisor.specs.declared.Supervisor.{Supervisor}
use Rattle.instants.specs.Retimed.{instead, TimerName, gcs_clear, rc_clear, gps_deg_set, gps_deg_clear, gps_lost_set, gps_lost_clear, ekf_set, ekf_clear, breach_set, breach_clear, alt_max_set, alt_max_clear, alt_min_set, alt_min_clear, stale_clear, warn_set, warn_clear, low_set, low_clear, crit_set, marg_set, marg_clear, infeas_set, invalid_clear, rc_set, hold_of, triggers_at, position_at, Instants, Stamps, supervisor_at, gps_at, value_at, flag_at, landed_at, telemetry_at}
use Rattle.instants.specs.Own.{position_stamp, gps_stamp, value_stamp, flag_stamp, landed_stamp}
use Rattle.instants.specs.Listed.{timer_place, listed, unlisted, stamps_listed, stamps_unlisted}
use Rattle.marks.specs.Marks.{held_now, fresh_now, sound_now, gap_now, up_to2000, held_mark, fresh_mark, gap_mark, marks, stamp_marks, marks_of, stamp_marks_of}
use Rattle.marks.specs.Rows.{MarksClaim, BackClaim, BelowClaim}
use Rattle.types.specs.declared.Stamped.{Stamped}
use Rattle.types.specs.declared.LandedState.{LandedState}
use Rattle.types.specs.declared.PositionSample.{PositionSample}
use Rattle.types.specs.declared.GpsSample.{GpsSample}

-- ---- a mark, in the place of what is held

module _ (now x : ℕ) where
  held : (o : Option ℕ) (hold : ℕ) → instead (held_mark (hold_met plain now x hold)) o ≡ instead (held_mark (held_now plain now (instead x o) hold)) o
  held None hold = refl
  held (Some y) hold = refl

  sound : (o : Option ℕ) → instead (fresh_mark (started (age plain now x))) o ≡ instead (fresh_mark (sound_now plain now (instead x o))) o
  sound None = refl
  sound (Some y) = refl

  stored : (p : Option PositionSample) → position_at (gap_mark (up_to2000 (age plain now x))) p ≡ position_at (gap_mark (gap_now plain now (position_stamp (position_at x p)))) p
  stored None = refl
  stored (Some p) = refl

  position : (p : Option PositionSample) (limit : ℕ) → position_at (fresh_mark (fresh plain now x limit)) p ≡ position_at (fresh_mark (fresh_now plain now (position_stamp (position_at x p)) limit)) p
  position None limit = refl
  position (Some p) limit = refl

  gps : (p : Option GpsSample) (limit : ℕ) → gps_at (fresh_mark (fresh plain now x limit)) p ≡ gps_at (fresh_mark (fresh_now plain now (gps_stamp (gps_at x p)) limit)) p
  gps None limit = refl
  gps (Some p) limit = refl

  value : (p : Option (Stamped Float)) (limit : ℕ) → value_at (fresh_mark (fresh plain now x limit)) p ≡ value_at (fresh_mark (fresh_now plain now (value_stamp (value_at x p)) limit)) p
  value None limit = refl
  value (Some r) limit = refl

  flag : (p : Option (Stamped Bool)) (limit : ℕ) → flag_at (fresh_mark (fresh plain now x limit)) p ≡ flag_at (fresh_mark (fresh_now plain now (flag_stamp (flag_at x p)) limit)) p
  flag None limit = refl
  flag (Some r) limit = refl

  landed : (p : Option (Stamped LandedState)) (limit : ℕ) → landed_at (fresh_mark (fresh plain now x limit)) p ≡ landed_at (fresh_mark (fresh_now plain now (landed_stamp (landed_at x p)) limit)) p
  landed None limit = refl
  landed (Some r) limit = refl

-- ---- all of them

module _ (cfg : Config) (x : Supervisor) (i : Instants) (t : Telemetry) (j : Stamps) where
  state_marks : supervisor_at (marks_of cfg t.now_ms i) x ≡ supervisor_at (marks cfg (supervisor_at i x) t) x
  unfolding supervisor_at triggers_at marks marks_of
  state_marks = simp (← held, ← sound, ← stored)

  stamp_marks_lem : telemetry_at (stamp_marks_of cfg j) t ≡ telemetry_at (stamp_marks cfg (telemetry_at j t)) t
  unfolding telemetry_at stamp_marks stamp_marks_of
  stamp_marks_lem = simp (position, gps, value, flag, landed)

  pub row_marks : MarksClaim cfg x i t j
  row_marks = record { state = state_marks; stamps = stamp_marks_lem }

-- ---- a row, read back

timer_back : (i : Instants) (n : TimerName) → get_or (listed i) (timer_place n) 0 ≡ i.timer n
unfolding listed
timer_back i gcs_clear = refl
timer_back i rc_clear = refl
timer_back i gps_deg_set = refl
timer_back i gps_deg_clear = refl
timer_back i gps_lost_set = refl
timer_back i gps_lost_clear = refl
timer_back i ekf_set = refl
timer_back i ekf_clear = refl
timer_back i breach_set = refl
timer_back i breach_clear = refl
timer_back i alt_max_set = refl
timer_back i alt_max_clear = refl
timer_back i alt_min_set = refl
timer_back i alt_min_clear = refl
timer_back i stale_clear = refl
timer_back i warn_set = refl
timer_back i warn_clear = refl
timer_back i low_set = refl
timer_back i low_clear = refl
timer_back i crit_set = refl
timer_back i marg_set = refl
timer_back i marg_clear = refl
timer_back i infeas_set = refl
timer_back i invalid_clear = refl
timer_back i rc_set = refl

pub instants_back : (i : Instants) → unlisted (listed i) ≡ i
unfolding unlisted listed
instants_back i = λ k. record { timer = λ n. timer_back i n k; recovery = i.recovery; gate = i.gate; stored = i.stored; last = i.last; epoch = i.epoch }

pub stamps_back : (j : Stamps) → stamps_unlisted (stamps_listed j) ≡ j
unfolding stamps_unlisted stamps_listed
stamps_back j = refl

pub row_back : (i : Instants) (j : Stamps) → BackClaim i j
row_back i j = record { state = instants_back i; stamps = stamps_back j }

-- ---- each mark is a number of 32 bits

held_below : (b : Bool) → held_mark b < 2 ^ 32
held_below true = omega arith
held_below false = omega arith

fresh_below : (b : Bool) → fresh_mark b < 2 ^ 32
fresh_below true = omega arith
fresh_below false = omega arith

gap_below : (o : Option ℕ) → gap_mark o < 2 ^ 32
gap_below None = omega arith
gap_below (Some gap) = omega arith

module _ (cfg : Config) (now : ℕ) (i : Instants) (j : Stamps) where
  hold : (x ms : ℕ) → held_mark (hold_met plain now x ms) < 2 ^ 32
  hold x ms = held_below (hold_met plain now x ms)

  timer : (n : TimerName) → held_mark (hold_met plain now (i.timer n) (hold_of cfg n)) < 2 ^ 32
  timer n = hold (i.timer n) (hold_of cfg n)

  stamp : (x limit : ℕ) → fresh_mark (fresh plain j.now x limit) < 2 ^ 32
  stamp x limit = fresh_below (fresh plain j.now x limit)

  pub row_below : BelowClaim cfg now i j
  unfolding listed marks_of stamps_listed stamp_marks_of
  row_below =
      record {
        state = (timer gcs_clear, (timer rc_clear, (timer gps_deg_set, (timer gps_deg_clear, (timer gps_lost_set, (timer gps_lost_clear, (timer ekf_set, (timer ekf_clear, (timer breach_set, (timer breach_clear, (timer alt_max_set, (timer alt_max_clear, (timer alt_min_set, (timer alt_min_clear, (timer stale_clear, (timer warn_set, (timer warn_clear, (timer low_set, (timer low_clear, (timer crit_set, (timer marg_set, (timer marg_clear, (timer infeas_set, (timer invalid_clear, (timer rc_set, (hold i.recovery cfg.recovery_hold_ms, (hold i.gate cfg.disarm_hold_ms, (gap_below (up_to2000 (age plain now i.stored)), (fresh_below (started (age plain now i.last)), (omega arith, tt))))))))))))))))))))))))))))));
        stamps = (omega arith, (stamp j.position cfg.pos_fresh_ms, (stamp j.gps cfg.gps_fresh_ms, (stamp j.voltage cfg.battery_fresh_ms, (stamp j.percent cfg.battery_fresh_ms, (stamp j.remaining cfg.battery_fresh_ms, (omega arith, (stamp j.armed cfg.status_fresh_ms, (stamp j.landed cfg.status_fresh_ms, (stamp j.rc cfg.status_fresh_ms, (stamp j.ekf cfg.status_fresh_ms, tt)))))))))));
      }
