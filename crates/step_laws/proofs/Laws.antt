-- The laws of a whole step. Assumes nothing.
use Rattle.std.specs.Prelude.{Option}
use Prim.Native.Nat.{ℕ}
use mathlib.Core.Bool.{Bool, true, false, not, ◌&&◌, cond, false≢true}
use mathlib.Core.Path.{◌≡◌, refl, ap}
use lib.Ieee.{Float}
use Rattle.types.specs.declared.Action.{Action}
use Rattle.types.specs.declared.Telemetry.{Telemetry}
use Rattle.time.specs.Time.{Clock}
use Rattle.config.specs.declared.Config.{Config}
use Rattle.triggers.specs.declared.TriggerState.{TriggerState}
use Rattle.triggers.specs.Update.{fresh_triggers, without_gcs_timer, update}
use Rattle.arbiter.specs.Arbiter.{fresh_arbiter}
use Rattle.disarm.specs.declared.DisarmGate.{DisarmGate}
use Rattle.disarm.specs.declared.Evaluated.{Evaluated}
use Rattle.disarm.specs.Disarm.{closed, gate_open, hold_from, evaluate}
use Rattle.supervisor.specs.declared.Supervisor.{Supervisor}
use Rattle.supervisor.specs.Settings.{Settings, Fed}
use Rattle.supervisor.specs.Step.{glitch_after, sense, decision_of, disarmed_decision, disarmed, flown, step}
use Rattle.supervisor.proofs.Kept.{battery_latch_stays, energy_latch_stays}
use Rattle.step_laws.specs.Laws.{cleared_by_third, clock_at, disarms, rest_from, after, StepClaim}
use Rattle.types.specs.declared.Stamped.{Stamped}
use Rattle.types.specs.declared.LandedState.{LandedState}
use Rattle.triggers.specs.declared.Place.{Place}

-- a fault closes the gate
closes : (ck : Clock) (g : DisarmGate) (now : ℕ) (armed : Option (Stamped Bool)) (landed : Option (Stamped LandedState)) (ms hold : ℕ) (asked : Action) (fault : Bool)
    → fault ≡ true → evaluate ck g now armed landed ms hold asked fault ≡ record { gate = closed; eligible = false }
unfolding evaluate
closes ck g now armed landed ms hold asked fault e = at (gate_open ck now armed landed ms asked)
  where
    shut : Evaluated
    shut = record { gate = closed; eligible = false }

    at : (b : Bool) → cond (b && not fault) (hold_from ck g.hold_since_ms now hold) shut ≡ shut
    at true = ap (λ (f : Bool). cond (not f) (hold_from ck g.hold_since_ms now hold) shut) e
    at false = refl

-- and leaves the triggers' state
held : (ck : Clock) (x : TriggerState) (t : Telemetry) (cfg : Config) (lo hi : Float) (p : Option Place) (m : Option Float) (i f : Bool) → f ≡ true → (update ck x t cfg lo hi p m i f).triggers ≡ x
unfolding update
held ck x t cfg lo hi p m i true e = refl
held ck x t cfg lo hi p m i false e = absurd (false≢true e)

module _ (r : Settings) (s : Supervisor) (fed : Fed) where
  -- ---- where it is no confirmed disarm

  third : (clock_at r s fed).third ≡ true → disarms r s fed ≡ false → step r s fed ≡ rest_from r s fed (cleared_by_third s)
  unfolding step
  third t d = rw (d, t)

  else : (clock_at r s fed).third ≡ false → disarms r s fed ≡ false → step r s fed ≡ rest_from r s fed s
  unfolding step
  else t d = rw (d, t)

  keeps : (clock_at r s fed).fault ≡ true → disarms r s fed ≡ false → (after r s fed).triggers ≡ cond (clock_at r s fed).third (without_gcs_timer s.triggers) s.triggers
  unfolding step flown sense
  keeps f d = rw (after, d) (held _ _ _ _ _ _ _ _ _ _ f)

  -- ---- where it is one

  answers : disarms r s fed ≡ true → (step r s fed).decision.action ≡ Action.Nominal
  unfolding step disarmed disarmed_decision
  answers d = rw d

  resets : disarms r s fed ≡ true → ((after r s fed).triggers ≡ fresh_triggers) × ((after r s fed).arbiter ≡ fresh_arbiter) × ((after r s fed).disarm ≡ closed)
  unfolding step disarmed
  resets d = rw (after, d) (refl, refl, refl)

  filter_stays : disarms r s fed ≡ true → (clock_at r s fed).third ≡ false → (after r s fed).glitch ≡ s.glitch
  unfolding step disarmed
  filter_stays d t = rw (after, d) (ap (λ (b : Bool). glitch_after b s.glitch) t)

  -- ---- either way

  goes_on : ((after r s fed).last_now ≡ (clock_at r s fed).last_now) × ((after r s fed).epoch_start ≡ (clock_at r s fed).epoch_start) × ((after r s fed).backwards_streak ≡ (clock_at r s fed).backwards_streak)
  unfolding step disarmed flown
  goes_on = at (disarms r s fed) refl
    where
      at : (b : Bool) → disarms r s fed ≡ b → ((after r s fed).last_now ≡ (clock_at r s fed).last_now) × ((after r s fed).epoch_start ≡ (clock_at r s fed).epoch_start) × ((after r s fed).backwards_streak ≡ (clock_at r s fed).backwards_streak)
      at true d = rw (after, d) (refl, refl, refl)
      at false d = rw (after, d) (refl, refl, refl)

  resets_hold : (clock_at r s fed).fault ≡ true → ((after r s fed).disarm ≡ closed) × ((step r s fed).decision.disarm_eligible ≡ false)
  unfolding step disarmed disarmed_decision flown decision_of
  resets_hold f = at (disarms r s fed) refl
    where
      at : (b : Bool) → disarms r s fed ≡ b → ((after r s fed).disarm ≡ closed) × ((step r s fed).decision.disarm_eligible ≡ false)
      at true d = rw (after, d) (refl, refl)
      at false d = rw (after, d) (
        ap (λ (e : Evaluated). e.gate) (closes _ _ _ _ _ _ _ _ _ f),
        ap (λ (e : Evaluated). e.eligible) (closes _ _ _ _ _ _ _ _ _ f),
      )

pub step_claim : StepClaim
step_claim r s fed =
    record {
      fault_resets_hold = resets_hold r s fed;
      fault_keeps_triggers = keeps r s fed;
      third_clears = third r s fed;
      else_clears_nothing = else r s fed;
      disarm_answers = answers r s fed;
      disarm_resets = resets r s fed;
      disarm_keeps_filter = filter_stays r s fed;
      clock_goes_on = goes_on r s fed;
      battery_latch_lem = battery_latch_stays r s fed;
      energy_latch_lem = energy_latch_stays r s fed;
    }
