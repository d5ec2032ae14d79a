-- What a step leaves alone: a latch stays until confirmed disarm, and last_now moves only on sound steps. Assumes nothing.
use Rattle.std.specs.Prelude.{Option, Some, None}
use Prim.Native.Nat.{ℕ}
use mathlib.Core.Bool.{Bool, true, false, ◌||◌, false≢true, true≢false}
use mathlib.Core.Path.{◌≡◌, refl}
use lib.Ieee.{Float}
use Rattle.types.specs.declared.Telemetry.{Telemetry}
use Rattle.time.specs.Time.{Clock, age}
use Rattle.config.specs.declared.Config.{Config}
use Rattle.validate.specs.Bounds.{validate_telemetry}
use Rattle.validate.specs.Fresh.{confirmed_disarm}
use Rattle.triggers.specs.declared.TriggerState.{TriggerState}
use Rattle.triggers.specs.Families.{battery, energy}
use Rattle.triggers.specs.Update.{without_gcs_timer, families, next_triggers, update}
use Rattle.supervisor.specs.declared.Supervisor.{Supervisor}
use Rattle.supervisor.specs.Settings.{Settings, Fed}
use Rattle.clock.specs.Clock.{clock_fault, sound_clock, by_age, clock_step}
use Rattle.supervisor.specs.Step.{triggers_after, sense, flown, step}
use Rattle.triggers.specs.declared.Place.{Place}

or_true : (a b : Bool) → a ≡ true → (a || b) ≡ true
or_true true b h = refl
or_true false b h = absurd (false≢true h)

battery_stays : (ck : Clock) (s : TriggerState) (now : ℕ) (p v : Option Float) (cfg : Config) → s.battery_critical_latched ≡ true → (battery ck s now p v cfg).latched ≡ true
unfolding battery
battery_stays ck s now None v cfg h = h
battery_stays ck s now (Some p) v cfg h = or_true _ _ h

energy_stays : (ck : Clock) (s : TriggerState) (now : ℕ) (m : Option Float) (cfg : Config) → s.energy_infeasible_latched ≡ true → (energy ck s now m cfg).latched ≡ true
unfolding energy
energy_stays ck s now None cfg h = h
energy_stays ck s now (Some m) cfg h = or_true _ _ h

-- both latches of a state
abbrev pub Latched : (TriggerState → Bool) → Type 0
Latched latch = (ck : Clock) (s : TriggerState) (t : Telemetry) (cfg : Config) (lo hi : Float) (p : Option Place) (m : Option Float) (i f : Bool) → latch s ≡ true → latch (update ck s t cfg lo hi p m i f).triggers ≡ true

battery_update : Latched (λ s. s.battery_critical_latched)
unfolding update families next_triggers
battery_update ck s t cfg lo hi p m i true h = h
battery_update ck s t cfg lo hi p m i false h = battery_stays ck s t.now_ms _ _ cfg h

energy_update : Latched (λ s. s.energy_infeasible_latched)
unfolding update families next_triggers
energy_update ck s t cfg lo hi p m i true h = h
energy_update ck s t cfg lo hi p m i false h = energy_stays ck s t.now_ms m cfg h

module _ (r : Settings) (s : Supervisor) (fed : Fed) where
  -- whether the step is a confirmed disarm
  abbrev disarms : Bool
  disarms = let t = (validate_telemetry fed.telemetry r.cfg.usable_capacity_wh).telemetry in confirmed_disarm r.clock t.now_ms t.armed r.cfg.status_fresh_ms

  pub battery_latch_stays : disarms ≡ false → s.triggers.battery_critical_latched ≡ true → (step r s fed).supervisor.triggers.battery_critical_latched ≡ true
  unfolding step flown sense without_gcs_timer
  battery_latch_stays d h = rw d (battery_update _ _ _ _ _ _ _ _ _ _ (third (clock_step r.clock _ _ _ _ _).third))
    where
      third : (b : Bool) → (triggers_after b s.triggers).battery_critical_latched ≡ true
      third true = h
      third false = h

  pub energy_latch_stays : disarms ≡ false → s.triggers.energy_infeasible_latched ≡ true → (step r s fed).supervisor.triggers.energy_infeasible_latched ≡ true
  unfolding step flown sense without_gcs_timer
  energy_latch_stays d h = rw d (energy_update _ _ _ _ _ _ _ _ _ _ (third (clock_step r.clock _ _ _ _ _).third))
    where
      third : (b : Bool) → (triggers_after b s.triggers).energy_infeasible_latched ≡ true
      third true = h
      third false = h

-- a fault leaves last_now, a sound reading is the last one
pub fault_leaves_last : (ck : Clock) (last : Option ℕ) (epoch streak : ℕ) (init : Bool) (now : ℕ) → (clock_step ck last epoch streak init now).fault ≡ true → (clock_step ck last epoch streak init now).last_now ≡ last
unfolding clock_step sound_clock clock_fault
fault_leaves_last ck last epoch streak false now h = absurd (false≢true h)
fault_leaves_last ck None epoch streak true now h = absurd (false≢true h)
fault_leaves_last ck (Some last) epoch streak true now h = at (age ck now last) h
  where
    at : (a : Option ℕ) → (by_age a last epoch streak now).fault ≡ true → (by_age a last epoch streak now).last_now ≡ Some last
    at None h = refl
    at (Some a) h = absurd (false≢true h)

pub sound_is_last : (ck : Clock) (last : Option ℕ) (epoch streak : ℕ) (init : Bool) (now : ℕ) → (clock_step ck last epoch streak init now).fault ≡ false → (clock_step ck last epoch streak init now).last_now ≡ Some now
unfolding clock_step sound_clock clock_fault
sound_is_last ck last epoch streak false now h = refl
sound_is_last ck None epoch streak true now h = refl
sound_is_last ck (Some last) epoch streak true now h = at (age ck now last) h
  where
    at : (a : Option ℕ) → (by_age a last epoch streak now).fault ≡ false → (by_age a last epoch streak now).last_now ≡ Some now
    at None h = absurd (true≢false h)
    at (Some a) h = refl
