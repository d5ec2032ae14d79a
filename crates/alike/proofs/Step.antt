-- One step under another clock. Assumes nothing.
use Rattle.std.specs.Prelude.{Option, None}
use Prim.Native.Nat.{ℕ}
use mathlib.Core.Path.{◌≡◌, refl, ap, ap₂, sym, ◌∙◌}
use mathlib.Core.Bool.{Bool, true, false, not, ◌&&◌, cond, true≢false, false≢true}
use lib.Dec.{eqb}
use lib.Ieee.{Float}
use Rattle.types.specs.declared.Action.{Action}
use Rattle.types.specs.declared.Reason.{Reason}
use Rattle.types.specs.declared.Request.{Request}
use Rattle.types.specs.declared.Telemetry.{Telemetry}
use Rattle.time.specs.Time.{Clock}
use Rattle.config.specs.declared.Config.{Config}
use Rattle.energy.specs.Energy.{rtl_energy}
use Rattle.validate.specs.declared.GlitchState.{GlitchState}
use Rattle.validate.specs.declared.ValidatedTelemetry.{ValidatedTelemetry}
use Rattle.validate.specs.Bounds.{validate_telemetry}
use Rattle.validate.specs.Fresh.{confirmed_disarm}
use Rattle.triggers.specs.declared.TriggerState.{TriggerState}
use Rattle.triggers.specs.Families.{is_present}
use Rattle.triggers.specs.Update.{fresh_triggers, without_gcs_timer, update}
use Rattle.arbiter.specs.declared.ArbiterState.{ArbiterState}
use Rattle.arbiter.specs.Arbiter.{without_recovery, request, previous, shown, wanted, apply_persistence, needs_position, apply_feasibility, arbitrate}
use Rattle.disarm.specs.declared.DisarmGate.{DisarmGate}
use Rattle.supervisor.specs.declared.Supervisor.{Supervisor}
use Rattle.clock.specs.declared.ClockStep.{ClockStep}
use Rattle.supervisor.specs.declared.Sensed.{Sensed}
use Rattle.supervisor.specs.declared.Stepped.{Stepped}
use Rattle.clock.specs.Clock.{clock_step}
use Rattle.supervisor.specs.Settings.{Site, fed_at}
use Rattle.supervisor.specs.Step.{triggers_after, arbiter_after, glitch_after, sense, disarmed_decision, disarmed, decision_of, flown, step}
use Rattle.instants.specs.Retimed.{instead, onwards, TimerName, timer_of, hold_of, triggers_at, Instants, arbiter_at, gate_at, glitch_at, supervisor_at, stepped_at, Stamps, telemetry_at, durations_of, timers_after, instants_after}
use Rattle.instants.specs.Own.{position_stamp}
use Rattle.marks.specs.Marks.{gap_now}
use Rattle.alike.specs.Alike.{HoldAlike, StateAlike, ReadAlike, settings, retimed, AlikeClaim}
use Rattle.alike.proofs.Choices.{choose}
use Rattle.alike.proofs.Fresh.{disarm_alike}
use Rattle.alike.proofs.Filter.{validated_at, validate_law, validated_read}
use Rattle.alike.proofs.Sense.{rtl_at, sensed_at, sense_law}
use Rattle.alike.proofs.Show.{clock_at, clock_law, sound_third, third_fault_lem, third_read, arbitrate_law, evaluate_law}
use Rattle.triggers.specs.declared.Place.{Place}

-- ---- what a third fault clears

triggers_after_lem : (third : Bool) (i : TimerName → ℕ) (s : TriggerState) → triggers_after third (triggers_at i s) ≡ triggers_at i (triggers_after third s)
unfolding without_gcs_timer triggers_at
triggers_after_lem true i s = refl
triggers_after_lem false i s = refl

arbiter_after_lem : (third : Bool) (x : ℕ) (a : ArbiterState) → arbiter_after third (arbiter_at x a) ≡ arbiter_at x (arbiter_after third a)
unfolding without_recovery
arbiter_after_lem true x a = refl
arbiter_after_lem false x a = refl

glitch_after_lem : (third : Bool) (x : ℕ) (g : GlitchState) → glitch_after third (glitch_at x g) ≡ glitch_at x (glitch_after third g)
glitch_after_lem true x g = refl
glitch_after_lem false x g = refl

gap_after : (c1 c2 : Clock) (now1 now2 x : ℕ) (third : Bool) (g : GlitchState) → gap_now c2 now2 (instead x (position_stamp g.last_accepted)) ≡ gap_now c1 now1 (position_stamp g.last_accepted) → gap_now c2 now2 (instead x (position_stamp (glitch_after third g).last_accepted)) ≡ gap_now c1 now1 (position_stamp (glitch_after third g).last_accepted)
gap_after c1 c2 now1 now2 x true g e = refl
gap_after c1 c2 now1 now2 x false g e = e

-- ---- the two kinds of step

module _ (c1 c2 : Clock) (cfg d : Config) where
  decision_law : (fault : Bool) → disarmed_decision (durations_of d cfg) fault ≡ disarmed_decision cfg fault
  unfolding disarmed_decision rtl_energy
  decision_law fault = rw (rtl_at d cfg)

  disarmed_law : (i : Instants) (initialized : Bool) (now : ℕ) (clock : ClockStep) (g : GlitchState) (after : Instants) → after.stored ≡ i.stored → after.last ≡ cond clock.fault i.last now → after.epoch ≡ cond (initialized && not clock.third) i.epoch now → disarmed (durations_of d cfg) (clock_at initialized i.last i.epoch now clock) (glitch_at i.stored g) ≡ stepped_at after (disarmed cfg clock g)
  unfolding disarmed stepped_at supervisor_at fresh_triggers triggers_at
  disarmed_law i initialized now clock g after st la ep =
      λ k. record {
        supervisor =
            record {
              triggers = fresh_triggers;
              arbiter = (disarmed cfg clock g).supervisor.arbiter;
              disarm = (disarmed cfg clock g).supervisor.disarm;
              glitch = glitch_at (sym st k) g;
              last_now = instead (sym la k) clock.last_now;
              epoch_start = sym ep k;
              backwards_streak = clock.backwards_streak;
              initialized = true;
            };
        decision = decision_law clock.fault k;
        side = 255;
      }

  flown_law :
      (t : Telemetry) (j : Stamps) (read : ReadAlike c1 c2 cfg d t j) (i : Instants) (s : TriggerState) (r : Sensed) (a : ArbiterState) (g : DisarmGate) (initialized : Bool) (clock : ClockStep)
      → (clock.fault ≡ false → HoldAlike c1 c2 t.now_ms j.now i.recovery a.recovery_since_ms cfg.recovery_hold_ms d.recovery_hold_ms)
      → HoldAlike c1 c2 t.now_ms j.now i.gate g.hold_since_ms cfg.disarm_hold_ms d.disarm_hold_ms
      → flown (settings c2 (durations_of d cfg)) (sensed_at (timers_after j.now i.timer s) i.stored j.position r) (arbiter_at i.recovery a) (gate_at i.gate g) (clock_at initialized i.last i.epoch j.now clock) (telemetry_at j t)
      ≡ stepped_at
      (record {
        timer = timers_after j.now i.timer s;
        recovery = onwards j.now i.recovery a.recovery_since_ms;
        gate = onwards j.now i.gate g.hold_since_ms;
        stored = cond (is_present r.fence_dist_m) j.position i.stored;
        last = cond clock.fault i.last j.now;
        epoch = cond (initialized && not clock.third) i.epoch j.now;
      })
      (flown (settings c1 cfg) r a g clock t)
  unfolding flown stepped_at supervisor_at decision_of telemetry_at durations_of triggers_at
  flown_law t j read i s r a g initialized clock recovery gate =
      let want = wanted r.requested r.triggers.battery_critical_latched r.triggers.energy_infeasible_latched in
      let p = arbitrate_law c1 c2 t.now_ms j.now i.recovery cfg.recovery_hold_ms d.recovery_hold_ms a want r.position_valid clock.fault recovery in
      let e = evaluate_law c1 c2 t.now_ms j.now i.gate cfg.disarm_hold_ms d.disarm_hold_ms g t.armed t.landed j.armed j.landed cfg.status_fresh_ms d.status_fresh_ms r.requested.action clock.fault gate read.armed read.landed in
      λ k. record {
        supervisor =
            record {
              triggers = triggers_at (timers_after j.now i.timer s) r.triggers;
              arbiter = (p k).state;
              disarm = (e k).gate;
              glitch = glitch_at (cond (is_present r.fence_dist_m) j.position i.stored) r.glitch;
              last_now = instead (cond clock.fault i.last j.now) clock.last_now;
              epoch_start = cond (initialized && not clock.third) i.epoch j.now;
              backwards_streak = clock.backwards_streak;
              initialized = true;
            };
        decision = decision_of r (p k).output clock.fault (e k).eligible;
        side = r.side;
      }

-- a step that is not faulted is no third fault, and clears nothing
module _ (c1 c2 : Clock) (cfg d : Config) (now1 now2 : ℕ) (s : Supervisor) (i : Instants) (state : StateAlike c1 c2 cfg d now1 now2 s i) where
  timers_kept : (third : Bool) → third ≡ false → (n : TimerName) → HoldAlike c1 c2 now1 now2 (i.timer n) (timer_of (triggers_after third s.triggers) n).since_ms (hold_of cfg n) (hold_of d n)
  timers_kept true e n = absurd (true≢false e)
  timers_kept false e n = state.timer n

  recovery_kept : (third : Bool) → third ≡ false → HoldAlike c1 c2 now1 now2 i.recovery (arbiter_after third s.arbiter).recovery_since_ms cfg.recovery_hold_ms d.recovery_hold_ms
  recovery_kept true e = absurd (true≢false e)
  recovery_kept false e = state.recovery

-- after a third fault the link's timer and the recovery are not there
module _ (now2 : ℕ) where
  masked_triggers : (i : TimerName → ℕ) (s : TriggerState) (ck : Clock) (t : Telemetry) (cfg : Config) (min_alt max_alt : Float) (place : Option Place) (margin : Option Float) (invalid third fault : Bool) → (third ≡ true → fault ≡ true) → triggers_at (timers_after now2 i (triggers_after third s)) (update ck (triggers_after third s) t cfg min_alt max_alt place margin invalid fault).triggers ≡ triggers_at (timers_after now2 i s) (update ck (triggers_after third s) t cfg min_alt max_alt place margin invalid fault).triggers
  unfolding triggers_at update without_gcs_timer
  masked_triggers i s ck t cfg min_alt max_alt place margin invalid true true e = refl
  masked_triggers i s ck t cfg min_alt max_alt place margin invalid true false e = absurd (false≢true (e refl))
  masked_triggers i s ck t cfg min_alt max_alt place margin invalid false fault e = refl

  either_none : (b : Bool) (x y : ℕ) (o p : Request) → arbiter_at x (cond b (shown o None) (shown p None)).state ≡ arbiter_at y (cond b (shown o None) (shown p None)).state
  either_none true x y o p = refl
  either_none false x y o p = refl

  masked_arbiter : (x : ℕ) (a : ArbiterState) (ck : Clock) (now1 hold : ℕ) (want : Request) (valid third fault : Bool) → (third ≡ true → fault ≡ true) → arbiter_at (onwards now2 x (arbiter_after third a).recovery_since_ms) (arbitrate ck (arbiter_after third a) now1 hold want valid fault).state ≡ arbiter_at (onwards now2 x a.recovery_since_ms) (arbitrate ck (arbiter_after third a) now1 hold want valid fault).state
  unfolding arbitrate apply_persistence apply_feasibility without_recovery
  masked_arbiter x a ck now1 hold want valid true true e = either_none (needs_position a.prev_output && not valid) _ _ (request Reason.PositionInvalid Action.Land) (previous a)
  masked_arbiter x a ck now1 hold want valid true false e = absurd (false≢true (e refl))
  masked_arbiter x a ck now1 hold want valid false fault e = refl

-- ---- the step, from the clock and the validated telemetry

module _
    (c1 c2 : Clock) (cfg d : Config) (site : Site) (s : Supervisor) (i : Instants) (t : Telemetry) (j : Stamps)
    (state : StateAlike c1 c2 cfg d t.now_ms j.now s i)
    (raw : ReadAlike c1 c2 cfg d t j)
  where
    abbrev cap : Float
    cap = cfg.usable_capacity_wh

    abbrev clock : ClockStep
    clock = clock_step c1 s.last_now s.epoch_start s.backwards_streak s.initialized t.now_ms

    abbrev v : ValidatedTelemetry
    v = validate_telemetry t cap

    abbrev other : Config
    other = durations_of d cfg

    read : ReadAlike c1 c2 cfg d v.telemetry j
    read = validated_read c1 c2 cfg d t j cap raw

    abbrev step_by : Clock → Config → Supervisor → ClockStep → ValidatedTelemetry → Stepped
    step_by ck c u k w =
        let g = glitch_after k.third u.glitch in
        cond (confirmed_disarm ck w.telemetry.now_ms w.telemetry.armed c.status_fresh_ms)
        (disarmed c k g)
        (flown (settings ck c) (sense (settings ck c) site (triggers_after k.third u.triggers) g w.telemetry w.invalid_input k.fault) (arbiter_after k.third u.arbiter) u.disarm k w.telemetry)

    first : step (settings c1 cfg) s (fed_at site t) ≡ step_by c1 cfg s clock v
    unfolding step
    first = refl

    abbrev clock2 : ClockStep
    clock2 = clock_at s.initialized i.last i.epoch j.now clock

    second : step (settings c2 other) (supervisor_at i s) (fed_at site (telemetry_at j t)) ≡ step_by c2 other (supervisor_at i s) clock2 (validated_at j v)
    unfolding step supervisor_at telemetry_at durations_of
    second =
        ap₂ (step_by c2 other (supervisor_at i s))
        (clock_law c1 c2 t.now_ms j.now i.last s.last_now i.epoch s.epoch_start s.backwards_streak s.initialized state.last)
        (validate_law j t cap)

    -- the instants after a step that ends in r
    abbrev at : Stepped → Stepped
    at r = retimed i j s r

    -- a third fault, read off what it leaves
    epoch_is : cond (s.initialized && not (clock.fault && eqb clock.backwards_streak 0)) i.epoch j.now ≡ cond (s.initialized && not clock.third) i.epoch j.now
    epoch_is = ap (λ b. cond (s.initialized && not b) i.epoch j.now) (third_read c1 s.last_now s.epoch_start s.backwards_streak t.now_ms s.initialized)

    disarm_part : disarmed other clock2 (glitch_after clock.third (glitch_at i.stored s.glitch)) ≡ at (disarmed cfg clock (glitch_after clock.third s.glitch))
    unfolding instants_after disarmed disarmed_decision
    disarm_part = rw (glitch_after_lem clock.third i.stored s.glitch) (disarmed_law c1 c2 cfg d i s.initialized j.now clock (glitch_after clock.third s.glitch) _ refl refl epoch_is)

    abbrev seen : Sensed
    seen = sense (settings c1 cfg) site (triggers_after clock.third s.triggers) (glitch_after clock.third s.glitch) v.telemetry v.invalid_input clock.fault

    is_sound : clock.fault ≡ false → clock.third ≡ false
    is_sound e = sound_third c1 s.last_now s.epoch_start s.backwards_streak t.now_ms s.initialized e

    seen_law : sense (settings c2 other) site (triggers_after clock.third (triggers_at i.timer s.triggers)) (glitch_after clock.third (glitch_at i.stored s.glitch)) (telemetry_at j v.telemetry) v.invalid_input clock.fault ≡ sensed_at (timers_after j.now i.timer (triggers_after clock.third s.triggers)) i.stored j.position seen
    unfolding validate_telemetry
    seen_law =
        ap₂ (λ a b. sense (settings c2 other) site a b (telemetry_at j v.telemetry) v.invalid_input clock.fault) (triggers_after_lem clock.third i.timer s.triggers) (glitch_after_lem clock.third i.stored s.glitch)
        ∙ sense_law c1 c2 cfg d site (triggers_after clock.third s.triggers) i.timer (glitch_after clock.third s.glitch) i.stored v.telemetry j read
        (gap_after c1 c2 t.now_ms j.now i.stored clock.third s.glitch state.stored)
        v.invalid_input clock.fault
        (λ e. timers_kept c1 c2 cfg d t.now_ms j.now s i state clock.third (is_sound e))

    -- what a third fault clears takes no instant
    abbrev flight : Stepped
    flight = flown (settings c1 cfg) seen (arbiter_after clock.third s.arbiter) s.disarm clock v.telemetry

    masked :
        stepped_at
        (record {
          timer = timers_after j.now i.timer (triggers_after clock.third s.triggers);
          recovery = onwards j.now i.recovery (arbiter_after clock.third s.arbiter).recovery_since_ms;
          gate = onwards j.now i.gate s.disarm.hold_since_ms;
          stored = cond (is_present seen.fence_dist_m) j.position i.stored;
          last = cond clock.fault i.last j.now;
          epoch = cond (s.initialized && not clock.third) i.epoch j.now;
        })
        flight
        ≡ at flight
    unfolding instants_after stepped_at supervisor_at flown decision_of sense
    masked =
        let faults = third_fault_lem c1 s.last_now s.epoch_start s.backwards_streak t.now_ms s.initialized in
        let p = masked_triggers j.now i.timer s.triggers c1 v.telemetry cfg site.min_alt site.max_alt _ _ v.invalid_input clock.third clock.fault faults in
        let q = masked_arbiter j.now i.recovery s.arbiter c1 v.telemetry.now_ms cfg.recovery_hold_ms (wanted seen.requested seen.triggers.battery_critical_latched seen.triggers.energy_infeasible_latched) seen.position_valid clock.third clock.fault faults in
        λ k. record {
          supervisor =
              record {
                triggers = p k;
                arbiter = q k;
                disarm = (at flight).supervisor.disarm;
                glitch = (at flight).supervisor.glitch;
                last_now = (at flight).supervisor.last_now;
                epoch_start = sym epoch_is k;
                backwards_streak = clock.backwards_streak;
                initialized = true;
              };
          decision = flight.decision;
          side = flight.side;
        }

    flown_part : flown (settings c2 other) (sense (settings c2 other) site (triggers_after clock.third (triggers_at i.timer s.triggers)) (glitch_after clock.third (glitch_at i.stored s.glitch)) (telemetry_at j v.telemetry) v.invalid_input clock.fault) (arbiter_after clock.third (arbiter_at i.recovery s.arbiter)) (gate_at i.gate s.disarm) clock2 (telemetry_at j v.telemetry) ≡ at (flown (settings c1 cfg) seen (arbiter_after clock.third s.arbiter) s.disarm clock v.telemetry)
    unfolding instants_after flown decision_of validate_telemetry
    flown_part =
        ap₂ (λ r a. flown (settings c2 other) r a (gate_at i.gate s.disarm) clock2 (telemetry_at j v.telemetry)) seen_law (arbiter_after_lem clock.third i.recovery s.arbiter)
        ∙ flown_law c1 c2 cfg d v.telemetry j read i (triggers_after clock.third s.triggers) seen (arbiter_after clock.third s.arbiter) s.disarm s.initialized clock
        (λ e. recovery_kept c1 c2 cfg d t.now_ms j.now s i state clock.third (is_sound e))
        state.gate
        ∙ masked

    parts : step_by c2 other (supervisor_at i s) clock2 (validated_at j v) ≡ at (step_by c1 cfg s clock v)
    unfolding supervisor_at telemetry_at validate_telemetry durations_of
    parts =
        choose at {u = disarmed cfg clock (glitch_after clock.third s.glitch)} {v = flown (settings c1 cfg) seen (arbiter_after clock.third s.arbiter) s.disarm clock v.telemetry}
        (disarm_alike c1 c2 t.now_ms j.now cfg.status_fresh_ms d.status_fresh_ms j.armed t.armed raw.armed)
        disarm_part
        flown_part

    pub same_step : step (settings c2 other) (supervisor_at i s) (fed_at site (telemetry_at j t)) ≡ at (step (settings c1 cfg) s (fed_at site t))
    same_step = second ∙ parts ∙ ap at (sym first)

-- the theorem
pub alike : AlikeClaim
alike c1 c2 cfg d site s i t j state raw = same_step c1 c2 cfg d site s i t j state raw
