-- What holds between other instants and the held ones, and between other readings and the read ones, holds after a step. Assumes nothing.
use Rattle.std.specs.Prelude.{Option, Some, None}
use Prim.Native.Nat.{ℕ}
use mathlib.Core.Path.{◌≡◌, refl, ap, ◌∙◌}
use mathlib.Core.Bool.{Bool, true, false, cond}
use lib.Ieee.{Float}
use Rattle.types.specs.declared.Point2.{Point2}
use Rattle.types.specs.declared.Telemetry.{Telemetry}
use Rattle.time.specs.Time.{Clock, age}
use Rattle.geometry.specs.declared.FenceDistance.{FenceDistance}
use Rattle.config.specs.declared.Config.{Config}
use Rattle.validate.specs.declared.GlitchState.{GlitchState}
use Rattle.validate.specs.declared.Filtered.{Filtered}
use Rattle.validate.specs.declared.ValidatedTelemetry.{ValidatedTelemetry}
use Rattle.validate.specs.Bounds.{validate_telemetry, keep, position_ok}
use Rattle.validate.specs.Glitch.{accept_stored, apply_glitch_filter}
use Rattle.validate.specs.Fresh.{confirmed_disarm}
use Rattle.timers.specs.declared.Timer.{Timer}
use Rattle.triggers.specs.Families.{is_present}
use Rattle.supervisor.specs.declared.Supervisor.{Supervisor}
use Rattle.clock.specs.declared.ClockStep.{ClockStep}
use Rattle.supervisor.specs.declared.Stepped.{Stepped}
use Rattle.clock.specs.Clock.{clock_fault, sound_clock, by_age, clock_step}
use Rattle.supervisor.specs.Settings.{Site, fed_at}
use Rattle.supervisor.specs.Step.{place_of, dist_of, glitch_after, triggers_after, arbiter_after, sense, disarmed_decision, disarmed, decision_of, flown, step}
use Rattle.instants.specs.Retimed.{instead, onwards, TimerName, timer_of, Instants, Stamps, supervisor_at, stepped_at, instants_after, timers_after}
use Rattle.instants.specs.Own.{position_stamp, instants_of, stamps_of}
use Rattle.alike.specs.Alike.{settings}
use Rattle.alike.specs.Both.{OfState}
use Rattle.alike.proofs.Own.{own_is, own_step, timer_at_lem}
use Rattle.types.specs.declared.PositionSample.{PositionSample}

-- the last sound reading
last_by : (a : Option ℕ) (last epoch streak now : ℕ) → (by_age a last epoch streak now).last_now ≡ cond (by_age a last epoch streak now).fault (Some last) (Some now)
unfolding clock_fault sound_clock
last_by None last epoch streak now = refl
last_by (Some a) last epoch streak now = refl

last_is_lem : (ck : Clock) (last : Option ℕ) (epoch streak now : ℕ) (initialized : Bool) → (clock_step ck last epoch streak initialized now).last_now ≡ cond (clock_step ck last epoch streak initialized now).fault last (Some now)
unfolding clock_step sound_clock
last_is_lem ck last epoch streak now false = refl
last_is_lem ck None epoch streak now true = refl
last_is_lem ck (Some last) epoch streak now true = last_by (age ck now last) last epoch streak now

of_either : (Q : Stepped → Type 0) (b : Bool) (u v : Stepped) → Q u → Q v → Q (cond b u v)
of_either Q true u v p q = p
of_either Q false u v p q = q

module _ (P : ℕ → Option ℕ → Type 0) (absent : (x : ℕ) → P x None) where
  -- a timer that is there afterwards had its instant, or takes the reading
  follows : (now1 now2 x w : ℕ) (o after : Option ℕ) → after ≡ instead (onwards now1 w o) after → instead w o ≡ o → P x o → P now2 (Some now1) → P (onwards now2 x o) after
  follows now1 now2 x w o None e own p q = absent _
  follows now1 now2 x w None (Some y) e own p q = rw e q
  follows now1 now2 x w (Some z) (Some y) e own p q = rw (e, own) p

  stored_kept : (third : Bool) (x : ℕ) (g : GlitchState) → P x (position_stamp g.last_accepted) → P x (position_stamp (glitch_after third g).last_accepted)
  stored_kept true x g p = absent _
  stored_kept false x g p = p

  position_kept : (ok : Bool) (x : ℕ) (p : Option PositionSample) → P x (position_stamp p) → P x (position_stamp (keep ok p))
  position_kept true x p h = h
  position_kept false x p h = absent _

  either_stored : (near : Point2 → FenceDistance) (x y : ℕ) (b : Bool) (u v : Filtered) → P (cond (is_present (dist_of (place_of near u.position))) y x) (position_stamp u.glitch.last_accepted) → P (cond (is_present (dist_of (place_of near v.position))) y x) (position_stamp v.glitch.last_accepted) → P (cond (is_present (dist_of (place_of near (cond b u v).position))) y x) (position_stamp (cond b u v).glitch.last_accepted)
  either_stored near x y true u v p q = p
  either_stored near x y false u v p q = q

  stored_by : (ck : Clock) (near : Point2 → FenceDistance) (x y now : ℕ) (g : GlitchState) (p : Option PositionSample) (v_max : Float) → P x (position_stamp g.last_accepted) → P y (position_stamp p) → P (cond (is_present (dist_of (place_of near (apply_glitch_filter ck g now p v_max).position))) y x) (position_stamp (apply_glitch_filter ck g now p v_max).glitch.last_accepted)
  unfolding apply_glitch_filter
  stored_by ck near x y now g None v_max h q = h
  stored_by ck near x y now g (Some sample) v_max h q = either_stored near x y (accept_stored ck g.last_accepted g.reject_streak now sample v_max) _ _ q h

  last_kept : (fault : Bool) (x now2 now1 : ℕ) (o : Option ℕ) → P x o → P now2 (Some now1) → P (cond fault x now2) (cond fault o (Some now1))
  last_kept true x now2 now1 o p q = p
  last_kept false x now2 now1 o p q = q

module _ (P : ℕ → Option ℕ → Type 0) (absent : (x : ℕ) → P x None) where
  module _
      (ck : Clock) (cfg : Config) (site : Site) (s : Supervisor) (i : Instants) (t : Telemetry) (j : Stamps)
      (held : OfState P s i) (reading : P j.now (Some t.now_ms)) (position : P j.position (position_stamp t.position))
    where
      abbrev r : Stepped
      r = step (settings ck cfg) s (fed_at site t)

      abbrev clock : ClockStep
      clock = clock_step ck s.last_now s.epoch_start s.backwards_streak s.initialized t.now_ms

      abbrev after : Instants
      after = instants_after i j s r

      -- the two kinds of step
      abbrev v : ValidatedTelemetry
      v = validate_telemetry t cfg.usable_capacity_wh

      abbrev is_disarm : Bool
      is_disarm = confirmed_disarm ck v.telemetry.now_ms v.telemetry.armed cfg.status_fresh_ms

      abbrev on_disarm : Stepped
      on_disarm = disarmed cfg clock (glitch_after clock.third s.glitch)

      abbrev on_flight : Stepped
      on_flight = flown (settings ck cfg) (sense (settings ck cfg) site (triggers_after clock.third s.triggers) (glitch_after clock.third s.glitch) v.telemetry v.invalid_input clock.fault) (arbiter_after clock.third s.arbiter) s.disarm clock v.telemetry

      own : r ≡ stepped_at (instants_after (instants_of s) (stamps_of t) s r) r
      own = own_step ck cfg s t site

      timer_moves : (n : TimerName) → P (after.timer n) (timer_of r.supervisor.triggers n).since_ms
      unfolding instants_after instants_of stamps_of stepped_at supervisor_at
      timer_moves n =
          let e : (timer_of r.supervisor.triggers n).since_ms ≡ instead (timers_after t.now_ms (instants_of s).timer s.triggers n) (timer_of r.supervisor.triggers n).since_ms
          = ap (λ (x : Stepped). (timer_of x.supervisor.triggers n).since_ms) own ∙ ap (λ (x : Timer). x.since_ms) (timer_at_lem (timers_after t.now_ms (instants_of s).timer s.triggers) r.supervisor.triggers n) in
          follows P absent t.now_ms j.now (i.timer n) ((instants_of s).timer n) (timer_of s.triggers n).since_ms _ e
          (own_is (timer_of s.triggers n).since_ms)
          (held.timer n)
          reading

      recovery_moves : P after.recovery r.supervisor.arbiter.recovery_since_ms
      unfolding instants_after instants_of stamps_of stepped_at supervisor_at
      recovery_moves =
          follows P absent t.now_ms j.now i.recovery (instants_of s).recovery s.arbiter.recovery_since_ms _
          (ap (λ (x : Stepped). x.supervisor.arbiter.recovery_since_ms) own)
          (own_is s.arbiter.recovery_since_ms)
          held.recovery
          reading

      gate_moves : P after.gate r.supervisor.disarm.hold_since_ms
      unfolding instants_after instants_of stamps_of stepped_at supervisor_at
      gate_moves =
          follows P absent t.now_ms j.now i.gate (instants_of s).gate s.disarm.hold_since_ms _
          (ap (λ (x : Stepped). x.supervisor.disarm.hold_since_ms) own)
          (own_is s.disarm.hold_since_ms)
          held.gate
          reading

      last_moves : P after.last r.supervisor.last_now
      unfolding instants_after step flown disarmed decision_of disarmed_decision
      last_moves =
          of_either (λ (x : Stepped). P (cond x.decision.clock_fault i.last j.now) x.supervisor.last_now) is_disarm on_disarm on_flight by by
        where
          by : P (cond clock.fault i.last j.now) clock.last_now
          by = rw (last_is_lem ck s.last_now s.epoch_start s.backwards_streak t.now_ms s.initialized) (last_kept P absent clock.fault i.last j.now t.now_ms s.last_now held.last reading)

      stored_moves : P after.stored (position_stamp r.supervisor.glitch.last_accepted)
      unfolding instants_after step sense flown disarmed decision_of disarmed_decision validate_telemetry
      stored_moves =
          let g = stored_kept P absent clock.third i.stored s.glitch held.stored in
          of_either (λ (x : Stepped). P (cond (is_present x.decision.fence_dist_m) j.position i.stored) (position_stamp x.supervisor.glitch.last_accepted)) is_disarm on_disarm on_flight g
          (stored_by P absent ck site.near i.stored j.position t.now_ms (glitch_after clock.third s.glitch) (keep (position_ok t.position) t.position) cfg.v_max g (position_kept P absent (position_ok t.position) j.position t.position position))

      pub moves : OfState P r.supervisor after
      moves = record { timer = timer_moves; recovery = recovery_moves; gate = gate_moves; stored = stored_moves; last = last_moves }
