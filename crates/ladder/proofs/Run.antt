-- The claim on every list, by induction: what the supervisor keeps is what the record says. Assumes nothing.
use Prim.Native.Nat.{ℕ, ◌%◌}
use mathlib.Core.Path.{◌≡◌, refl, ap, sym, ◌∙◌}
use mathlib.Core.Bool.{Bool, true, cond}
use mathlib.Core.List.{List, [], ◌∷◌}
use Rattle.types.specs.declared.Action.{Action}
use Rattle.types.specs.declared.Request.{Request}
use Rattle.validate.specs.Bounds.{validate_telemetry}
use Rattle.triggers.specs.Update.{fresh_triggers}
use Rattle.arbiter.specs.declared.ArbiterState.{ArbiterState}
use Rattle.arbiter.specs.declared.Arbitrated.{Arbitrated}
use Rattle.arbiter.specs.Arbiter.{fresh_arbiter, wanted, arbitrate}
use Rattle.supervisor.specs.declared.Supervisor.{Supervisor}
use Rattle.clock.specs.declared.ClockStep.{ClockStep}
use Rattle.supervisor.specs.declared.Sensed.{Sensed}
use Rattle.supervisor.specs.declared.Stepped.{Stepped}
use Rattle.supervisor.specs.Settings.{Settings, Fed}
use Rattle.clock.specs.Clock.{clock_step}
use Rattle.supervisor.specs.Step.{fresh_supervisor, arbiter_after, glitch_after, disarmed, disarmed_decision, decision_of, flown, step}
use Rattle.ladder.specs.Ladder.{Step, Earlier, with_changes}
use Rattle.ladder.specs.Clock.{last_sound, faulted, faulted_row, third}
use Rattle.ladder.specs.Record.{Line, state_after, record_of, previous_output, readings, Followed, disarm, sensed, followed, step_of, steps_of}
use Rattle.ladder.specs.Claim.{Obeys, ObeysAll, LadderClaim}
use Rattle.ladder.proofs.Choices.{cond-ap, cond_same}
use Rattle.ladder.proofs.Stretch.{goes_on}
use Rattle.ladder.proofs.Arbiter.{since, shown_action, kept, output_kept, shown_allowed, since_kept}
use Rattle.ladder.proofs.Obeys.{obeys}
use Rattle.ladder.proofs.Clock.{Told, told, some, third_faulted}

module _ (r : Settings) where
  abbrev hold : ℕ
  hold = r.cfg.recovery_hold_ms

  -- the steps before, as the record gives them
  abbrev before : List Line → List Earlier
  before l = with_changes r.clock hold (steps_of r l)

  abbrev followed_in : List Line → Followed
  followed_in l = followed r l

  abbrev want : Sensed → Request
  want s = wanted s.requested s.triggers.battery_critical_latched s.triggers.energy_infeasible_latched

  -- the invariant
  pub record Agrees (s : Supervisor) (l : List Line) : Type 0 where
    pub initialized : s.initialized ≡ some (readings l)
    pub last : s.last_now ≡ last_sound r.clock (readings l)
    pub streak : s.backwards_streak ≡ faulted_row r.clock (readings l) % 3
    pub triggers : s.triggers ≡ (followed_in l).triggers
    pub glitch : s.glitch ≡ (followed_in l).glitch
    pub output : s.arbiter.prev_output ≡ previous_output l
    pub recovery : since s.arbiter ≡ goes_on (before l)

  fresh_agrees : Agrees fresh_supervisor []
  unfolding fresh_supervisor last_sound faulted_row followed with_changes steps_of
  fresh_agrees = record { initialized = refl; last = refl; streak = refl; triggers = refl; glitch = refl; output = refl; recovery = refl }

  module _ (s : Supervisor) (t : Fed) (l : List Line) where
    abbrev stepped : Stepped
    stepped = step r s t

    abbrev line : Line
    line = record { fed = t; action = stepped.decision.action }

    abbrev k : Step
    k = step_of r line l

    abbrev is_disarm : Bool
    is_disarm = disarm r line

    -- ---- one step, part by part
    abbrev clock : ClockStep
    clock = clock_step r.clock s.last_now s.epoch_start s.backwards_streak s.initialized t.telemetry.now_ms

    abbrev kept_part : Followed
    kept_part = record { triggers = s.triggers; glitch = s.glitch }

    abbrev senses : Sensed
    senses = sensed r kept_part t clock.fault clock.third

    abbrev arbiter_by : Sensed → Bool → Bool → Arbitrated
    arbiter_by seen fault is_third = arbitrate r.clock (arbiter_after is_third s.arbiter) t.telemetry.now_ms hold (want seen) seen.position_valid fault

    stepped_is : stepped ≡ cond is_disarm (disarmed r.cfg clock (glitch_after clock.third s.glitch)) (flown r senses (arbiter_after clock.third s.arbiter) s.disarm clock (validate_telemetry t.telemetry r.cfg.usable_capacity_wh).telemetry)
    unfolding step sensed validate_telemetry
    stepped_is = refl

    action_part : stepped.decision.action ≡ cond is_disarm Action.Nominal (arbiter_by senses clock.fault clock.third).output.action
    unfolding disarmed disarmed_decision flown decision_of validate_telemetry
    action_part = rw stepped_is (cond-ap (λ (r : Stepped). r.decision.action) is_disarm _ _)

    arbiter_part : stepped.supervisor.arbiter ≡ cond is_disarm fresh_arbiter (arbiter_by senses clock.fault clock.third).state
    unfolding disarmed flown validate_telemetry
    arbiter_part = rw stepped_is (cond-ap (λ (r : Stepped). r.supervisor.arbiter) is_disarm _ _)

    triggers_part : stepped.supervisor.triggers ≡ cond is_disarm fresh_triggers senses.triggers
    unfolding disarmed flown
    triggers_part = rw stepped_is (cond-ap (λ (r : Stepped). r.supervisor.triggers) is_disarm _ _)

    glitch_part : stepped.supervisor.glitch ≡ cond is_disarm (glitch_after clock.third s.glitch) senses.glitch
    unfolding disarmed flown
    glitch_part = rw stepped_is (cond-ap (λ (r : Stepped). r.supervisor.glitch) is_disarm _ _)

    last_part : stepped.supervisor.last_now ≡ clock.last_now
    unfolding disarmed flown
    last_part = rw stepped_is (cond-ap (λ (r : Stepped). r.supervisor.last_now) is_disarm _ _ ∙ cond_same is_disarm _)

    streak_part : stepped.supervisor.backwards_streak ≡ clock.backwards_streak
    unfolding disarmed flown
    streak_part = rw stepped_is (cond-ap (λ (r : Stepped). r.supervisor.backwards_streak) is_disarm _ _ ∙ cond_same is_disarm _)

    initialized_part : stepped.supervisor.initialized ≡ true
    unfolding disarmed flown
    initialized_part = rw stepped_is (cond-ap (λ (r : Stepped). r.supervisor.initialized) is_disarm _ _ ∙ cond_same is_disarm _)

    -- ---- the same read off the record
    module _ (i : Agrees s l) where
      abbrev is_faulted : Bool
      is_faulted = faulted r.clock t.telemetry.now_ms (readings l)

      abbrev is_third : Bool
      is_third = third r.clock t.telemetry.now_ms (readings l)

      abbrev seen : Sensed
      seen = sensed r (followed_in l) t is_faulted is_third

      clock_told : Told r.clock t.telemetry.now_ms (readings l) clock
      clock_told = rw (i.last, i.initialized) (told r.clock (readings l) t.telemetry.now_ms s.epoch_start s.backwards_streak i.streak)

      seen_is : senses ≡ seen
      seen_is = rw (i.triggers, i.glitch, clock_told.fault, clock_told.is_third_lem)

      action_is : stepped.decision.action ≡ shown_action r.clock hold s.arbiter (want seen) k (before l)
      unfolding step_of
      action_is = action_part ∙ rw (seen_is, clock_told.fault, clock_told.is_third_lem)

      arbiter_is : stepped.supervisor.arbiter ≡ kept r.clock hold s.arbiter (want seen) k (before l)
      unfolding step_of
      arbiter_is = arbiter_part ∙ rw (seen_is, clock_told.fault, clock_told.is_third_lem)

      faults : k.third ≡ true → k.faulted ≡ true
      unfolding step_of
      faults e = third_faulted is_faulted _ e

      wants : (want seen).action ≡ k.wanted
      unfolding step_of
      wants = refl

      shows : s.arbiter.prev_output ≡ k.previous_output
      unfolding step_of
      shows = i.output

      is_shown : k.action ≡ shown_action r.clock hold s.arbiter (want seen) k (before l)
      unfolding step_of
      is_shown = action_is

      pub step_obeys : Obeys r.clock hold k (before l)
      step_obeys = obeys r.clock hold k (before l) (is_shown ∙ shown_allowed r.clock hold s.arbiter (want seen) k (before l) faults wants shows i.recovery _ refl)

      triggers_is : stepped.supervisor.triggers ≡ (followed_in (line ∷ l)).triggers
      unfolding followed
      triggers_is = triggers_part ∙ rw seen_is

      glitch_is : stepped.supervisor.glitch ≡ (followed_in (line ∷ l)).glitch
      unfolding followed
      glitch_is = glitch_part ∙ rw (seen_is, clock_told.is_third_lem, i.glitch)

      output_is : stepped.supervisor.arbiter.prev_output ≡ previous_output (line ∷ l)
      output_is = ap (λ (a : ArbiterState). a.prev_output) arbiter_is ∙ output_kept r.clock hold s.arbiter (want seen) k (before l) _ refl ∙ sym action_is

      recovery_is : since stepped.supervisor.arbiter ≡ goes_on (before (line ∷ l))
      unfolding with_changes steps_of
      recovery_is = ap since arbiter_is ∙ since_kept r.clock hold s.arbiter (want seen) k (before l) faults wants shows i.recovery is_shown _ _ refl refl

      pub agrees : Agrees stepped.supervisor (line ∷ l)
      agrees =
          record {
            initialized = initialized_part;
            last = last_part ∙ clock_told.last;
            streak = streak_part ∙ clock_told.streak;
            triggers = triggers_is;
            glitch = glitch_is;
            output = output_is;
            recovery = recovery_is;
          }

  agrees_after : (fed : List Fed) → Agrees (state_after r fed) (record_of r fed)
  unfolding state_after record_of
  agrees_after [] = fresh_agrees
  agrees_after (t ∷ earlier) = agrees (state_after r earlier) t (record_of r earlier) (agrees_after earlier)

  obeys_all : (fed : List Fed) → ObeysAll r.clock hold (steps_of r (record_of r fed))
  unfolding state_after record_of steps_of
  obeys_all [] = tt
  obeys_all (t ∷ earlier) =
      (step_obeys (state_after r earlier) t (record_of r earlier) (agrees_after earlier), obeys_all earlier)

-- the theorem
pub ladder_claim : LadderClaim
ladder_claim r fed = obeys_all r fed
