-- Document 02, L7: "A running 32-bit state is carried over without landing. The host gives the last sound reading T in 64 bits". Assumes nothing.
use Rattle.std.specs.Prelude.{ℕ, ◌-◌, ◌%◌, ◌^◌, Bool, true, false, cond, List, [], ◌∷◌, ◌==◌, Option, Some, None, Result, Ok, Err}
use Rattle.time.specs.Time.{wrapping, wrapping_sub, age, at_most}
use Rattle.supervisor.specs.declared.Supervisor.{Supervisor}
use Rattle.wire.specs.Frame.{all_true}
use Rattle.instants.specs.Retimed.{TimerName, gcs_clear, rc_clear, gps_deg_set, gps_deg_clear, gps_lost_set, gps_lost_clear, ekf_set, ekf_clear, breach_set, breach_clear, alt_max_set, alt_max_clear, alt_min_set, alt_min_clear, stale_clear, warn_set, warn_clear, low_set, low_clear, crit_set, marg_set, marg_clear, infeas_set, invalid_clear, rc_set, timer_of, Instants, supervisor_at}
use Rattle.instants.specs.Own.{own, position_stamp}
use Rattle.instants.specs.Listed.{listed}
use Rattle.carry.specs.declared.CarryError.{CarryError}

-- "34 where last_now is absent or T's low 32 bits differ from it"
abbrev pub last_is : ℕ → Option ℕ → Bool
last_is T None = false
last_is T (Some last) = T % 2 ^ 32 == last

-- whether an instant that may be held has an age, at most T, where the last sound reading's low bits are these
abbrev pub has_age_at : ℕ → ℕ → Option ℕ → Bool
has_age_at T last None = true
has_age_at T last (Some x) = at_most (age wrapping last x) T

module _ (T : ℕ) (s : Supervisor) where
  -- last_now, where it is there
  abbrev pub last_of : ℕ
  last_of = own s.last_now

  -- "35 where a held instant other than the epoch has no age or one above T"
  abbrev pub has_age : Option ℕ → Bool
  has_age = has_age_at T last_of

  abbrev pub timer_has_age : TimerName → Bool
  timer_has_age n = has_age (timer_of s.triggers n).since_ms

  -- all but the first of these tests
  abbrev pub age_tests : List Bool
  age_tests =
      timer_has_age rc_clear ∷
      timer_has_age gps_deg_set ∷
      timer_has_age gps_deg_clear ∷
      timer_has_age gps_lost_set ∷
      timer_has_age gps_lost_clear ∷
      timer_has_age ekf_set ∷
      timer_has_age ekf_clear ∷
      timer_has_age breach_set ∷
      timer_has_age breach_clear ∷
      timer_has_age alt_max_set ∷
      timer_has_age alt_max_clear ∷
      timer_has_age alt_min_set ∷
      timer_has_age alt_min_clear ∷
      timer_has_age stale_clear ∷
      timer_has_age warn_set ∷
      timer_has_age warn_clear ∷
      timer_has_age low_set ∷
      timer_has_age low_clear ∷
      timer_has_age crit_set ∷
      timer_has_age marg_set ∷
      timer_has_age marg_clear ∷
      timer_has_age infeas_set ∷
      timer_has_age invalid_clear ∷
      timer_has_age rc_set ∷
      has_age s.arbiter.recovery_since_ms ∷
      has_age s.disarm.hold_since_ms ∷
      has_age (position_stamp s.glitch.last_accepted) ∷
      []

  unfoldable pub have_ages : Bool
  have_ages = all_true (timer_has_age gcs_clear) age_tests

  -- "each held instant becomes T minus its wrapping age at last_now"
  abbrev pub carried_from : ℕ → ℕ
  carried_from x = T - wrapping_sub last_of x

  abbrev pub carried_held : Option ℕ → ℕ
  carried_held o = carried_from (own o)

  -- "The epoch does too, or becomes T where it has no age or one above T."
  abbrev pub carried_epoch : ℕ
  carried_epoch = cond (at_most (age wrapping last_of s.epoch_start) T) (carried_from s.epoch_start) T

  -- last_now, which has the age 0, becomes T
  unfoldable pub carried : Instants
  carried =
      record {
        timer = λ n. carried_held (timer_of s.triggers n).since_ms;
        recovery = carried_held s.arbiter.recovery_since_ms;
        gate = carried_held s.disarm.hold_since_ms;
        stored = carried_held (position_stamp s.glitch.last_accepted);
        last = T;
        epoch = carried_epoch;
      }

  -- the state carried over
  abbrev pub widened : Supervisor
  widened = supervisor_at carried s

-- "34 where last_now is absent or T's low 32 bits differ from it, then 35 where a held instant other than the epoch has no age or one above T"
abbrev pub carry_error_number : CarryError → ℕ
carry_error_number CarryError.OtherReading = 34
carry_error_number CarryError.NoAge = 35

-- the instants in the order of the frame, or why the state is turned away
unfoldable pub carry : ℕ → Supervisor → Result (List ℕ) CarryError
carry T s =
    cond (last_is T s.last_now)
    (cond (have_ages T s) (Ok (listed (carried T s))) (Err CarryError.NoAge))
    (Err CarryError.OtherReading)
