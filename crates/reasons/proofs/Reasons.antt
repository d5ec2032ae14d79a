-- The claim of specs/Claim.antt. Assumes nothing.
use Rattle.std.specs.Prelude.{Option, Some, None}
use Prim.Native.Nat.{ℕ}
use mathlib.Core.Bool.{Bool, true, false, not, cond, false≢true, true≢false}
use mathlib.Core.Path.{◌≡◌, refl, ap, ◌∙◌}
use lib.Ieee.{Float}
use Rattle.types.specs.declared.Action.{Action}
use Rattle.types.specs.declared.Reason.{Reason}
use Rattle.types.specs.declared.Telemetry.{Telemetry}
use Rattle.time.specs.Time.{Clock, age}
use Rattle.config.specs.declared.Config.{Config}
use Rattle.triggers.specs.declared.TriggerState.{TriggerState}
use Rattle.triggers.specs.declared.Raised.{Raised}
use Rattle.triggers.specs.declared.Families.{Families}
use Rattle.timers.specs.Timer.{raised_by}
use Rattle.triggers.specs.Families.{gps, ekf}
use Rattle.triggers.specs.Update.{none_raised, fresh_triggers, families, raised_of, rc_lost, link_requests, fence_requests, battery_requests, requests, next_triggers, update}
use Rattle.clock.specs.Clock.{clock_fault, sound_clock, by_age, clock_step}
use Rattle.supervisor.specs.declared.Supervisor.{Supervisor}
use Rattle.supervisor.specs.Settings.{Settings, Fed}
use Rattle.supervisor.specs.Step.{sense, disarmed_decision, disarmed, decision_of, flown, step}
use Rattle.step_laws.specs.Laws.{clock_at, disarms, rest_from, after}
use Rattle.step_laws.proofs.Laws.{step_claim}
use Rattle.reasons.specs.Reasons.{◌when◌, is_filed, gps_sample, filed, filed_on_fault, filed_on_disarm, battery_latch, energy_latch, link_stage, raised_next}
use Rattle.reasons.specs.Claim.{Files, Left, UpdateClaim, StepReasons, StepReasonsClaim}
use Rattle.reasons.proofs.Slots.{empty_files, files_option, files_if, files_as}
use Rattle.reasons.proofs.Rows.{pair, pair_as, degraded_is, recovered_is, fixed_is, invalid_row, stale_row, link_row, stage_row, rc_row, approach_row, breach_row, max_row, min_row, warn_row, low_row, latch_row, critical_row, marginal_row, short_row, infeasible_row}
use Rattle.types.specs.declared.GpsSample.{GpsSample}
use Rattle.triggers.specs.declared.Place.{Place}

-- ---- the families' requests, in the Rust's order

module _ (keeps : Bool) (on : Raised) (f : Families) where
  -- a rule by which they are filed, made as they are; `rows` below says what it comes to
  requests_filed : (rule : Reason → Option Action) × Files (requests keeps on f) rule
  unfolding requests link_requests fence_requests battery_requests
  requests_filed = (
    _,
    files_if Reason.EnergyRtlInfeasible f.energy.infeasible Action.Land refl
        (files_if Reason.EnergyRtlMarginal on.energy_rtl_marginal Action.ReturnToLaunch refl
        (files_if Reason.BatteryCritical f.battery.critical Action.Land refl
        (files_if Reason.BatteryLow on.battery_low Action.ReturnToLaunch refl
        (files_if Reason.BatteryWarn on.battery_warn Action.Warn refl
        (files_if Reason.StaleBattery f.stale.stale Action.ReturnToLaunch refl
        (files_if Reason.AltitudeMin on.altitude_min Action.Warn refl
        (files_if Reason.AltitudeMax (raised_by false false f.fence.alt_max) Action.ReturnToLaunch refl
        (files_if Reason.FenceBreach on.fence_breach Action.ReturnToLaunch refl
        (files_if Reason.FenceApproach f.fence.approach Action.Warn refl
        (files_if Reason.EkfUnhealthy on.ekf_unhealthy Action.Land refl
        (files_if Reason.GpsLost on.gps_lost Action.Land refl
        (files_if Reason.GpsDegraded on.gps_degraded Action.Warn refl
        (files_if Reason.RcLost (rc_lost keeps f.rc) Action.ReturnToLaunch refl
        (files_option Reason.GcsLinkLost f.gcs.request refl
        (files_if Reason.InvalidInput f.invalid.active Action.Warn refl
        empty_files))))))))))))))),
  )

-- ---- row by row

when_same : {a b : Bool} (act : Action) → a ≡ b → (act when a) ≡ (act when b)
when_same act e = ap (λ (x : Bool). act when x) e

module _ (ck : Clock) (s : TriggerState) (t : Telemetry) (cfg : Config) (lo hi : Float) (place : Option Place) (margin : Option Float) (invalid : Bool) where
  abbrev f : Families
  f = families ck s t cfg lo hi place margin invalid

  abbrev on : Raised
  on = raised_of cfg.keeps_raised s.raised f

  abbrev g : Option GpsSample
  g = gps_sample ck s t cfg lo hi place margin invalid

  rows : (q : Reason) → (requests_filed cfg.keeps_raised on f).0 q ≡ filed ck s t cfg lo hi place margin invalid q
  unfolding requests_filed filed battery_latch energy_latch families raised_of gps ekf
  rows Reason.None = refl
  rows Reason.ClockFault = refl
  rows Reason.InvalidInput = when_same Action.Warn (invalid_row ck t.now_ms cfg _ _ invalid _)
  rows Reason.StaleBattery = when_same Action.ReturnToLaunch (stale_row ck t.now_ms cfg _ _ _ _)
  rows Reason.GcsLinkLost = link_row ck t.now_ms cfg _ _ _
  rows Reason.RcLost = when_same Action.ReturnToLaunch (rc_row ck t.now_ms cfg cfg.keeps_raised _ _ _)
  rows Reason.GpsDegraded = when_same Action.Warn (pair_as ck t.now_ms cfg.keeps_raised _ _ _ cfg.gps_degraded_set_ms cfg.gps_degraded_clear_ms (degraded_is g) (recovered_is g))
  rows Reason.GpsLost = when_same Action.Land (pair_as ck t.now_ms cfg.keeps_raised _ _ _ cfg.gps_lost_set_ms cfg.gps_lost_clear_ms (ap not (fixed_is g)) (fixed_is g))
  rows Reason.EkfUnhealthy = when_same Action.Land (pair ck t.now_ms cfg.keeps_raised _ _ _ _ _ _ _)
  rows Reason.PositionInvalid = refl
  rows Reason.FenceApproach = when_same Action.Warn (approach_row ck t.now_ms cfg s _ lo hi place)
  rows Reason.FenceBreach = when_same Action.ReturnToLaunch (breach_row ck t.now_ms cfg s _ lo hi cfg.keeps_raised _ place)
  rows Reason.AltitudeMax = when_same Action.ReturnToLaunch (max_row ck t.now_ms cfg s _ lo hi place)
  rows Reason.AltitudeMin = when_same Action.Warn (min_row ck t.now_ms cfg s _ lo hi cfg.keeps_raised _ place)
  rows Reason.BatteryWarn = when_same Action.Warn (warn_row ck t.now_ms cfg s _ cfg.keeps_raised _ _)
  rows Reason.BatteryLow = when_same Action.ReturnToLaunch (low_row ck t.now_ms cfg s _ cfg.keeps_raised _ _)
  rows Reason.BatteryCritical = when_same Action.Land (critical_row ck t.now_ms cfg s _ _)
  rows Reason.EnergyRtlMarginal = when_same Action.ReturnToLaunch (marginal_row ck t.now_ms cfg s cfg.keeps_raised _ margin)
  rows Reason.EnergyRtlInfeasible = when_same Action.Land (infeasible_row ck t.now_ms cfg s margin)

  sound_filed : Files (update ck s t cfg lo hi place margin invalid false).active (filed ck s t cfg lo hi place margin invalid)
  unfolding update
  sound_filed = files_as rows (requests_filed cfg.keeps_raised on f).1

  fault_filed : Files (update ck s t cfg lo hi place margin invalid true).active filed_on_fault
  unfolding update
  fault_filed = files_option Reason.ClockFault (Some Action.Warn) refl empty_files

  battery_latched : (update ck s t cfg lo hi place margin invalid false).triggers.battery_critical_latched ≡ battery_latch ck s t cfg lo hi place margin invalid
  unfolding update families next_triggers battery_latch
  battery_latched = latch_row ck t.now_ms cfg s _ _

  energy_latched : (update ck s t cfg lo hi place margin invalid false).triggers.energy_infeasible_latched ≡ energy_latch ck s t cfg lo hi place margin invalid
  unfolding update families next_triggers energy_latch
  energy_latched = short_row ck t.now_ms cfg s margin

  stage_left : (update ck s t cfg lo hi place margin invalid false).triggers.gcs_stage ≡ link_stage ck s t cfg lo hi place margin invalid
  unfolding update families next_triggers link_stage
  stage_left = stage_row ck t.now_ms cfg _ _ _

  -- what was asked for is what is filed
  asked_is : (q : Reason) (b : Bool) (a : Action) → (a when b) ≡ filed ck s t cfg lo hi place margin invalid q → b ≡ is_filed (filed ck s t cfg lo hi place margin invalid q)
  asked_is q b a e = at b ∙ ap is_filed e
    where
      at : (b : Bool) → b ≡ is_filed (a when b)
      at true = refl
      at false = refl

  invalid_left : (update ck s t cfg lo hi place margin invalid false).triggers.invalid_active ≡ is_filed (filed ck s t cfg lo hi place margin invalid Reason.InvalidInput)
  unfolding update next_triggers requests_filed
  invalid_left = asked_is Reason.InvalidInput f.invalid.active Action.Warn (rows Reason.InvalidInput)

  raised_left : (update ck s t cfg lo hi place margin invalid false).triggers.raised ≡ raised_next ck s t cfg lo hi place margin invalid
  unfolding update next_triggers raised_next requests_filed
  raised_left = ap (λ (x : Raised). cond cfg.keeps_raised x none_raised) same
    where
      same : on ≡ record {
        gps_degraded = is_filed (filed ck s t cfg lo hi place margin invalid Reason.GpsDegraded);
        gps_lost = is_filed (filed ck s t cfg lo hi place margin invalid Reason.GpsLost);
        ekf_unhealthy = is_filed (filed ck s t cfg lo hi place margin invalid Reason.EkfUnhealthy);
        fence_breach = is_filed (filed ck s t cfg lo hi place margin invalid Reason.FenceBreach);
        altitude_min = is_filed (filed ck s t cfg lo hi place margin invalid Reason.AltitudeMin);
        battery_warn = is_filed (filed ck s t cfg lo hi place margin invalid Reason.BatteryWarn);
        battery_low = is_filed (filed ck s t cfg lo hi place margin invalid Reason.BatteryLow);
        energy_rtl_marginal = is_filed (filed ck s t cfg lo hi place margin invalid Reason.EnergyRtlMarginal);
      }
      same = λ i. record {
        gps_degraded = asked_is Reason.GpsDegraded on.gps_degraded Action.Warn (rows Reason.GpsDegraded) i;
        gps_lost = asked_is Reason.GpsLost on.gps_lost Action.Land (rows Reason.GpsLost) i;
        ekf_unhealthy = asked_is Reason.EkfUnhealthy on.ekf_unhealthy Action.Land (rows Reason.EkfUnhealthy) i;
        fence_breach = asked_is Reason.FenceBreach on.fence_breach Action.ReturnToLaunch (rows Reason.FenceBreach) i;
        altitude_min = asked_is Reason.AltitudeMin on.altitude_min Action.Warn (rows Reason.AltitudeMin) i;
        battery_warn = asked_is Reason.BatteryWarn on.battery_warn Action.Warn (rows Reason.BatteryWarn) i;
        battery_low = asked_is Reason.BatteryLow on.battery_low Action.ReturnToLaunch (rows Reason.BatteryLow) i;
        energy_rtl_marginal = asked_is Reason.EnergyRtlMarginal on.energy_rtl_marginal Action.ReturnToLaunch (rows Reason.EnergyRtlMarginal) i;
      }

  left : Left ck s t cfg lo hi place margin invalid (update ck s t cfg lo hi place margin invalid false).triggers
  left = record { battery_latch_lem = battery_latched; energy_latch_lem = energy_latched; link_stage_lem = stage_left; invalid_active = invalid_left; raised_next_lem = raised_left }

  fault_leaves : (update ck s t cfg lo hi place margin invalid true).triggers ≡ s
  unfolding update
  fault_leaves = refl

pub update_reasons : UpdateClaim
update_reasons ck s t cfg lo hi place margin invalid =
    record {
      sound = sound_filed ck s t cfg lo hi place margin invalid;
      sound_left = left ck s t cfg lo hi place margin invalid;
      fault = fault_filed ck s t cfg lo hi place margin invalid;
      fault_left = fault_leaves ck s t cfg lo hi place margin invalid;
    }

-- ---- a whole step

-- at a step that is known to be sound, or faulted
module _ (ck : Clock) (s : TriggerState) (t : Telemetry) (cfg : Config) (lo hi : Float) (place : Option Place) (margin : Option Float) (invalid : Bool) where
  sound_at : (fault : Bool) → fault ≡ false → Files (update ck s t cfg lo hi place margin invalid fault).active (filed ck s t cfg lo hi place margin invalid)
  sound_at true e = absurd (true≢false e)
  sound_at false e = sound_filed ck s t cfg lo hi place margin invalid

  left_at : (fault : Bool) → fault ≡ false → Left ck s t cfg lo hi place margin invalid (update ck s t cfg lo hi place margin invalid fault).triggers
  left_at true e = absurd (true≢false e)
  left_at false e = left ck s t cfg lo hi place margin invalid

  fault_at : (fault : Bool) → fault ≡ true → Files (update ck s t cfg lo hi place margin invalid fault).active filed_on_fault
  fault_at true e = fault_filed ck s t cfg lo hi place margin invalid
  fault_at false e = absurd (false≢true e)

-- only a fault is a third one
sound_clears_nothing : (ck : Clock) (last : Option ℕ) (epoch streak : ℕ) (init : Bool) (now : ℕ) → (clock_step ck last epoch streak init now).fault ≡ false → (clock_step ck last epoch streak init now).third ≡ false
unfolding clock_step sound_clock clock_fault
sound_clears_nothing ck last epoch streak false now h = refl
sound_clears_nothing ck None epoch streak true now h = refl
sound_clears_nothing ck (Some last) epoch streak true now h = at (age ck now last) h
  where
    at : (a : Option ℕ) → (by_age a last epoch streak now).fault ≡ false → (by_age a last epoch streak now).third ≡ false
    at None h = absurd (true≢false h)
    at (Some a) h = refl

module _ (r : Settings) (s : Supervisor) (fed : Fed) where
  -- a sound step is sensed from the state as it is
  from_state_lem : (clock_at r s fed).fault ≡ false → disarms r s fed ≡ false → step r s fed ≡ rest_from r s fed s
  from_state_lem f d = (step_claim r s fed).else_clears_nothing (sound_clears_nothing _ _ _ _ _ _ f) d

  faulted : (clock_at r s fed).fault ≡ true → disarms r s fed ≡ false → Files (step r s fed).decision.active filed_on_fault
  unfolding step flown sense decision_of
  faulted f d = rw d (fault_at _ _ _ _ _ _ _ _ _ _ f)

  disarmed_files : disarms r s fed ≡ true → Files (step r s fed).decision.active filed_on_disarm
  unfolding step disarmed disarmed_decision
  disarmed_files d = rw d empty_files

  disarmed_latches : disarms r s fed ≡ true → ((after r s fed).triggers.battery_critical_latched ≡ false) × ((after r s fed).triggers.energy_infeasible_latched ≡ false)
  unfolding step disarmed fresh_triggers
  disarmed_latches d = rw (after, d) (refl, refl)

  step_reasons_at : StepReasons r s fed
  unfolding flown sense decision_of
  step_reasons_at =
      record {
        sound = λ f d. rw (from_state_lem f d) (sound_at _ _ _ _ _ _ _ _ _ _ f);
        sound_left = λ f d. rw (after, from_state_lem f d) (left_at _ _ _ _ _ _ _ _ _ _ f);
        fault = faulted;
        disarm = disarmed_files;
        disarm_latches = disarmed_latches;
      }

pub step_reasons : StepReasonsClaim
step_reasons = step_reasons_at
