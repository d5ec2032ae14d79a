-- The rule of one pair carried to the eight of every record, and the laws of a step. Assumes nothing.
use mathlib.Core.Bool.{Bool, true, false, not, ◌&&◌, ◌||◌, cond}
use mathlib.Core.List.{List, [], ◌∷◌}
use mathlib.Core.Path.{◌≡◌, refl, ap, sym, ◌∙◌}
use Rattle.types.specs.declared.Action.{Action}
use Rattle.types.specs.declared.Reason.{Reason}
use Rattle.types.specs.declared.Telemetry.{Telemetry}
use Rattle.types.specs.ActiveSet.{empty_set, set_request}
use Rattle.validate.specs.declared.GlitchState.{GlitchState}
use Rattle.validate.specs.Bounds.{validate_telemetry}
use Rattle.timers.specs.Timer.{held_set, hold_pair, raised_by}
use Rattle.triggers.specs.declared.Raised.{Raised}
use Rattle.triggers.specs.declared.Families.{Families}
use Rattle.triggers.specs.declared.TriggerState.{TriggerState}
use Rattle.triggers.specs.Families.{rc_link, gps, ekf, fence, battery, energy}
use Rattle.triggers.specs.Update.{none_raised, raised_of, kept_raised, fresh_triggers, next_triggers, update}
use Rattle.supervisor.specs.declared.Sensed.{Sensed}
use Rattle.supervisor.specs.declared.Supervisor.{Supervisor}
use Rattle.supervisor.specs.Settings.{Settings, Site, Fed}
use Rattle.supervisor.specs.Step.{triggers_after, glitch_after, arbiter_after, sense, decision_of, disarmed, flown, step}
use Rattle.supervisor.proofs.Rules.{third_raised}
use Rattle.step_laws.specs.Laws.{clock_at, disarms, after}
use Rattle.step_laws.proofs.Laws.{step_claim}
use Rattle.ladder.specs.Clock.{faulted, third}
use Rattle.ladder.specs.Record.{Line, Followed, reading, readings, disarm, sensed, followed}
use Rattle.raised_laws.specs.Pair.{raised_after}
use Rattle.raised_laws.specs.Eight.{Kept, GpsDegraded, GpsLost, EkfUnhealthy, FenceBreach, AltitudeMin, BatteryWarn, BatteryLow, EnergyRtlMarginal, pair_of, flag_of}
use Rattle.raised_laws.specs.Claim.{families_at, event_of, events_of, RaisedClaim, NoneRaisedClaim, RaisedLaws}

-- each of the eight by its own pair
by_pair : (keeps : Bool) (k : Kept) (before : Raised) (f : Families) → flag_of k (raised_of keeps before f) ≡ raised_by keeps (flag_of k before) (pair_of k f)
unfolding raised_of
by_pair keeps GpsDegraded before f = refl
by_pair keeps GpsLost before f = refl
by_pair keeps EkfUnhealthy before f = refl
by_pair keeps FenceBreach before f = refl
by_pair keeps AltitudeMin before f = refl
by_pair keeps BatteryWarn before f = refl
by_pair keeps BatteryLow before f = refl
by_pair keeps EnergyRtlMarginal before f = refl

none_flag : (k : Kept) → flag_of k none_raised ≡ false
none_flag GpsDegraded = refl
none_flag GpsLost = refl
none_flag EkfUnhealthy = refl
none_flag FenceBreach = refl
none_flag AltitudeMin = refl
none_flag BatteryWarn = refl
none_flag BatteryLow = refl
none_flag EnergyRtlMarginal = refl

and_true : (b : Bool) → b && true ≡ b
and_true true = refl
and_true false = refl

module _ (r : Settings) where
  -- what is raised after a step that is no confirmed disarm: at a faulted one as before, else by the families
  sensed_raised : (f : Followed) (fed : Fed) (fault is_third : Bool) → (sensed r f fed fault is_third).triggers.raised ≡ cond fault f.triggers.raised (kept_raised r.cfg.keeps_raised (raised_of r.cfg.keeps_raised f.triggers.raised (families_at r f fed is_third)))
  unfolding sensed sense update next_triggers families_at
  sensed_raised f fed true is_third = third_raised is_third f.triggers
  sensed_raised f fed false is_third = ap (λ (b : Raised). kept_raised r.cfg.keeps_raised (raised_of r.cfg.keeps_raised b (families_at r f fed is_third))) (third_raised is_third f.triggers)

  module _ (keeps : r.cfg.keeps_raised ≡ true) (k : Kept) where
    -- the flag after a step, by the rule
    flag_after : (f : Followed) (fed : Fed) (is_disarm fault is_third : Bool) → flag_of k (cond is_disarm fresh_triggers (sensed r f fed fault is_third).triggers).raised ≡ cond is_disarm false ((not fault && (pair_of k (families_at r f fed is_third)).set_met) || (flag_of k f.triggers.raised && not (not fault && (pair_of k (families_at r f fed is_third)).clear_met)))
    unfolding fresh_triggers raised_by
    flag_after f fed true fault is_third = none_flag k
    flag_after f fed false true is_third = ap (flag_of k) (sensed_raised f fed true is_third) ∙ sym (and_true (flag_of k f.triggers.raised))
    flag_after f fed false false is_third =
        ap (flag_of k) (sensed_raised f fed false is_third)
        ∙ (λ i. flag_of k (kept_raised (keeps i) (raised_of (keeps i) f.triggers.raised (families_at r f fed is_third))))
        ∙ by_pair true k f.triggers.raised (families_at r f fed is_third)

    carried : (lines : List Line) → flag_of k (followed r lines).triggers.raised ≡ raised_after (events_of r k lines)
    unfolding followed raised_after events_of event_of fresh_triggers
    carried [] = none_flag k
    carried (e ∷ earlier) =
        let fault = faulted r.clock (reading e) (readings earlier) in
        let is_third = third r.clock (reading e) (readings earlier) in
        let p = pair_of k (families_at r (followed r earlier) e.fed is_third) in
        flag_after (followed r earlier) e.fed (disarm r e) fault is_third
        ∙ ap (λ (b : Bool). cond (disarm r e) false ((not fault && p.set_met) || (b && not (not fault && p.clear_met)))) (carried earlier)

  none_after : r.cfg.keeps_raised ≡ false → (f : Followed) (fed : Fed) (is_disarm fault is_third : Bool) → f.triggers.raised ≡ none_raised → (cond is_disarm fresh_triggers (sensed r f fed fault is_third).triggers).raised ≡ none_raised
  unfolding fresh_triggers
  none_after off f fed true fault is_third h = refl
  none_after off f fed false true is_third h = sensed_raised f fed true is_third ∙ h
  none_after off f fed false false is_third h =
      sensed_raised f fed false is_third
      ∙ ap (λ (b : Bool). kept_raised b (raised_of r.cfg.keeps_raised f.triggers.raised (families_at r f fed is_third))) off

  none_carried : r.cfg.keeps_raised ≡ false → (lines : List Line) → (followed r lines).triggers.raised ≡ none_raised
  unfolding followed fresh_triggers
  none_carried off [] = refl
  none_carried off (e ∷ earlier) =
      none_after off (followed r earlier) e.fed (disarm r e) (faulted r.clock (reading e) (readings earlier)) (third r.clock (reading e) (readings earlier)) (none_carried off earlier)

pub raised_claim : RaisedClaim
raised_claim r keeps k lines = carried r keeps k lines

pub none_raised_claim : NoneRaisedClaim
none_raised_claim r off lines = none_carried r off lines

-- ---- the laws of a step

module _ (r : Settings) (s : Supervisor) (fed : Fed) where
  drops : disarms r s fed ≡ true → (after r s fed).triggers.raised ≡ none_raised
  unfolding fresh_triggers
  drops d = ap (λ (t : TriggerState). t.raised) ((step_claim r s fed).disarm_resets d).0

  keeps_at_fault : (clock_at r s fed).fault ≡ true → disarms r s fed ≡ false → (after r s fed).triggers.raised ≡ s.triggers.raised
  keeps_at_fault f d = ap (λ (t : TriggerState). t.raised) ((step_claim r s fed).fault_keeps_triggers f d) ∙ third_raised (clock_at r s fed).third s.triggers

  -- a faulted step's triggers file ClockFault alone
  files_at_fault : (clock_at r s fed).fault ≡ true → disarms r s fed ≡ false → (step r s fed).decision.active ≡ set_request empty_set Reason.ClockFault Action.Warn
  unfolding step flown sense update decision_of
  files_at_fault f d =
      let cfg = r.cfg in
      let clock = clock_at r s fed in
      let v = validate_telemetry fed.telemetry cfg.usable_capacity_wh in
      let glitch = glitch_after clock.third s.glitch in
      let sensed : Bool → Sensed = λ b. sense r fed.site (triggers_after clock.third s.triggers) glitch v.telemetry v.invalid_input b in
      ap (λ (b : Bool). (cond b (disarmed cfg clock glitch) (flown r (sensed clock.fault) (arbiter_after clock.third s.arbiter) s.disarm clock v.telemetry)).decision.active) d
      ∙ ap (λ (b : Bool). (sensed b).active) f
      ∙ sensed_fault fed.site (triggers_after clock.third s.triggers) glitch v.telemetry v.invalid_input
    where
      sensed_fault : (site : Site) (triggers : TriggerState) (glitch : GlitchState) (t : Telemetry) (invalid : Bool) → (sense r site triggers glitch t invalid true).active ≡ set_request empty_set Reason.ClockFault Action.Warn
      sensed_fault site triggers glitch t invalid = refl

pub raised_laws : RaisedLaws
unfolding raised_by gps ekf fence battery energy hold_pair held_set rc_link
raised_laws =
    record {
      rested_keeps = λ before set clear. and_true before;
      absent_gps = λ ck s now cfg. (refl, refl);
      absent_ekf = λ ck set clear now cfg. refl;
      absent_place = λ ck s now flying lo hi cfg. (refl, refl);
      absent_charge = λ ck s now volts cfg. (refl, refl);
      absent_margin = λ ck s now cfg. refl;
      rc_held = λ ck set clear now good cfg. refl;
      disarm_drops = λ r s fed d. drops r s fed d;
      fault_keeps = λ r s fed f d. keeps_at_fault r s fed f d;
      fault_files = λ r s fed f d. files_at_fault r s fed f d;
    }
