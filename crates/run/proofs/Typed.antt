-- A fresh state is within its types, and a step fed from bytes leaves a state that is. Assumes nothing.
use Rattle.std.specs.Prelude.{Option, Some, None}
use Prim.Native.Nat.{ℕ, ◌+◌, ◌<◌, ◌^◌}
use mathlib.Core.Bool.{Bool, true, false, not, ◌&&◌, cond}
use mathlib.Core.List.{List}
use lib.Dec.{leb, lit<}
use lib.Ieee.{Float, binary32}
use lib.Ieee.Bits.{of_bits-fits}
use Rattle.types.specs.declared.Action.{Action}
use Rattle.types.specs.declared.Reason.{Reason}
use Rattle.types.specs.declared.Request.{Request}
use Rattle.types.specs.declared.PositionSample.{PositionSample}
use Rattle.types.specs.Numbers.{rank}
use Rattle.time.specs.Time.{Clock, age, hold_met}
use Rattle.validate.specs.declared.GlitchState.{GlitchState}
use Rattle.validate.specs.declared.Filtered.{Filtered}
use Rattle.validate.specs.Bounds.{position_ok, keep, validate_telemetry}
use Rattle.validate.specs.Glitch.{accept_stored, next_streak, apply_glitch_filter}
use Rattle.validate.specs.Fresh.{confirmed_disarm}
use Rattle.triggers.specs.declared.TriggerState.{TriggerState}
use Rattle.triggers.specs.Update.{fresh_triggers, without_gcs_timer}
use Rattle.arbiter.specs.declared.ArbiterState.{ArbiterState}
use Rattle.arbiter.specs.declared.Arbitrated.{Arbitrated}
use Rattle.arbiter.specs.Arbiter.{request, previous, shown, without_recovery, recovery_start, recover, apply_persistence, needs_position, apply_feasibility, arbitrate}
use Rattle.disarm.specs.declared.Evaluated.{Evaluated}
use Rattle.disarm.specs.declared.DisarmGate.{DisarmGate}
use Rattle.disarm.specs.Disarm.{closed, gate_open, hold_start, hold_from, evaluate}
use Rattle.supervisor.specs.declared.Supervisor.{Supervisor}
use Rattle.supervisor.specs.Settings.{Settings, Fed}
use Rattle.clock.specs.Clock.{clock_fault, sound_clock, by_age, clock_step}
use Rattle.supervisor.specs.Step.{fresh_supervisor, triggers_after, arbiter_after, glitch_after, sense, disarmed, flown, step}
use Rattle.supervisor.proofs.Rules.{either}
use Rattle.wire.specs.Cell.{Within}
use Rattle.wire.specs.Fields.{Bytes, flag_at, u32_at}
use Rattle.wire.proofs.Fields.{u32_lt, f32_fits}
use Rattle.options.specs.Position.{vec3_at, position_cells, option_position_at}
use Rattle.frame_state.specs.StateFrame.{timer_cells, Typed}
use Rattle.frame_telemetry.specs.TelemetryFrame.{telemetry_at}
use Rattle.run.proofs.Small.{Small, chosen, timers_small}
use Rattle.types.specs.declared.Stamped.{Stamped}
use Rattle.types.specs.declared.LandedState.{LandedState}

abbrev Stored : Option PositionSample → Type 0
Stored o = Within (position_cells o)

absent_stored : Stored None
absent_stored = let z = of_bits-fits binary32 0 in (lit< tt, (z, (z, (z, (z, (z, (z, tt)))))))

pub fresh_typed : Typed fresh_supervisor
unfolding fresh_supervisor fresh_triggers
fresh_typed =
    record {
      timers = (lit< tt, (lit< tt, (lit< tt, (lit< tt, (lit< tt, (lit< tt, (lit< tt, (lit< tt, (lit< tt, (lit< tt, (lit< tt, (lit< tt, (lit< tt, (lit< tt, (lit< tt, (lit< tt, (lit< tt, (lit< tt, (lit< tt, (lit< tt, (lit< tt, (lit< tt, (lit< tt, (lit< tt, (lit< tt, tt)))))))))))))))))))))))));
      recovery = lit< tt;
      hold = lit< tt;
      stored = absent_stored;
      last = lit< tt;
      epoch = lit< tt;
    }

kept_stored : (b : Bool) (p : Option PositionSample) → Stored p → Stored (keep b p)
kept_stored true p h = h
kept_stored false p h = absent_stored

accepted : PositionSample → Filtered
accepted s =
    record {
      glitch = record { last_accepted = Some s; reject_streak = 0 };
      position = Some s;
    }

refused : GlitchState → Filtered
refused g =
    record {
      glitch = record { last_accepted = g.last_accepted; reject_streak = next_streak g.reject_streak };
      position = None;
    }

third_stored : (b : Bool) (g : GlitchState) → Stored g.last_accepted → Stored (glitch_after b g).last_accepted
third_stored true g h = absent_stored
third_stored false g h = h

start_small : (o : Option ℕ) (now : ℕ) → Small o → now < 2 ^ 32 → recovery_start o now < 2 ^ 32
start_small None now h n = n
start_small (Some t) now h n = h

abbrev Recovering : Arbitrated → Type 0
Recovering a = Small a.state.recovery_since_ms

third_recovery : (b : Bool) (a : ArbiterState) → Small a.recovery_since_ms → Small (arbiter_after b a).recovery_since_ms
unfolding without_recovery
third_recovery true a h = lit< tt
third_recovery false a h = h

hold_small : (o : Option ℕ) (now : ℕ) → Small o → now < 2 ^ 32 → hold_start o now < 2 ^ 32
hold_small None now h n = n
hold_small (Some t) now h n = h

third_timers : (b : Bool) (t : TriggerState) → Within (timer_cells t) → Within (timer_cells (triggers_after b t))
unfolding without_gcs_timer
third_timers true t h = (lit< tt, h.1)
third_timers false t h = h

-- on any clock
module _ (ck : Clock) where
  -- ---- the clock

  last_small : (last : Option ℕ) (epoch streak : ℕ) (init : Bool) (now : ℕ) → Small last → now < 2 ^ 32 → Small (clock_step ck last epoch streak init now).last_now
  unfolding clock_step sound_clock clock_fault
  last_small last epoch streak false now h n = n
  last_small None epoch streak true now h n = n
  last_small (Some last) epoch streak true now h n = at (age ck now last)
    where
      at : (a : Option ℕ) → Small (by_age a last epoch streak now).last_now
      at None = h
      at (Some a) = n

  epoch_small : (last : Option ℕ) (epoch streak : ℕ) (init : Bool) (now : ℕ) → epoch < 2 ^ 32 → now < 2 ^ 32 → (clock_step ck last epoch streak init now).epoch_start < 2 ^ 32
  unfolding clock_step sound_clock clock_fault
  epoch_small last epoch streak false now h n = n
  epoch_small None epoch streak true now h n = h
  epoch_small (Some last) epoch streak true now h n = at (age ck now last)
    where
      third : (b : Bool) → cond b now epoch < 2 ^ 32
      third true = n
      third false = h

      at : (a : Option ℕ) → (by_age a last epoch streak now).epoch_start < 2 ^ 32
      at None = third (leb 3 (streak + 1))
      at (Some a) = h

  -- ---- the filter

  filter_stored : (g : GlitchState) (now : ℕ) (p : Option PositionSample) (v : Float) → Stored g.last_accepted → Stored p → Stored (apply_glitch_filter ck g now p v).glitch.last_accepted
  unfolding apply_glitch_filter accepted refused
  filter_stored g now None v hg hp = hg
  filter_stored g now (Some s) v hg hp =
      either (λ b. Stored (cond b (accepted s) (refused g)).glitch.last_accepted) hp hg (accept_stored ck g.last_accepted g.reject_streak now s v)

  -- ---- the arbiter

  recover_small : (s : ArbiterState) (now hold : ℕ) (w : Request) → Small s.recovery_since_ms → now < 2 ^ 32 → Small (recover ck s now hold w).state.recovery_since_ms
  unfolding recover
  recover_small s now hold w h n =
      let since = recovery_start s.recovery_since_ms now in
      chosen Recovering (hold_met ck now since hold) (shown w None) (shown (previous s) (Some since)) (lit< tt) (start_small s.recovery_since_ms now h n)

  persistence_small : (s : ArbiterState) (now hold : ℕ) (w : Request) (f : Bool) → Small s.recovery_since_ms → now < 2 ^ 32 → Small (apply_persistence ck s now hold w f).state.recovery_since_ms
  unfolding apply_persistence
  persistence_small s now hold w true h n = h
  persistence_small s now hold w false h n =
      chosen Recovering (leb (rank s.prev_output) (rank w.action)) (shown w None) (recover ck s now hold w) (lit< tt) (recover_small s now hold w h n)

  arbiter_small : (s : ArbiterState) (now hold : ℕ) (w : Request) (v f : Bool) → Small s.recovery_since_ms → now < 2 ^ 32 → Small (arbitrate ck s now hold w v f).state.recovery_since_ms
  unfolding arbitrate apply_feasibility
  arbiter_small s now hold w v f h n =
      let a = apply_persistence ck s now hold w f in
      chosen Recovering (needs_position a.output.action && not v) (shown (request Reason.PositionInvalid Action.Land) None) a (lit< tt) (persistence_small s now hold w f h n)

  -- ---- the gate

  gate_small : (g : DisarmGate) (now : ℕ) (a : Option (Stamped Bool)) (l : Option (Stamped LandedState)) (ms hold : ℕ) (r : Action) (f : Bool) → Small g.hold_since_ms → now < 2 ^ 32 → Small (evaluate ck g now a l ms hold r f).gate.hold_since_ms
  unfolding evaluate hold_from
  gate_small g now a l ms hold r f h n =
      chosen (λ (e : Evaluated). Small e.gate.hold_since_ms) (gate_open ck now a l ms r && not f)
      (hold_from ck g.hold_since_ms now hold)
      (record { gate = closed; eligible = false })
      (hold_small g.hold_since_ms now h n)
      (lit< tt)

-- ---- a step

pub step_typed : (r : Settings) (s : Supervisor) (fed : Fed) → Typed s → fed.telemetry.now_ms < 2 ^ 32 → Stored fed.telemetry.position → Typed (step r s fed).supervisor
unfolding step disarmed flown sense fresh_supervisor fresh_triggers validate_telemetry
step_typed r s fed h n p =
    let raw = fed.telemetry in
    let cfg = r.cfg in
    let ck = r.clock in
    let clock = clock_step ck s.last_now s.epoch_start s.backwards_streak s.initialized raw.now_ms in
    let v = validate_telemetry raw cfg.usable_capacity_wh in
    let t = v.telemetry in
    let glitch = glitch_after clock.third s.glitch in
    let last = last_small ck s.last_now s.epoch_start s.backwards_streak s.initialized raw.now_ms h.last n in
    let epoch = epoch_small ck s.last_now s.epoch_start s.backwards_streak s.initialized raw.now_ms h.epoch n in
    let stored = third_stored clock.third s.glitch h.stored in
    let sensed = sense r fed.site (triggers_after clock.third s.triggers) glitch t v.invalid_input clock.fault in
    either
    (λ b. Typed (cond b (disarmed cfg clock glitch) (flown r sensed (arbiter_after clock.third s.arbiter) s.disarm clock t)).supervisor)
    (record {
      timers = fresh_timers;
      recovery = lit< tt;
      hold = lit< tt;
      stored = stored;
      last = last;
      epoch = epoch;
    })
    (record {
      timers = timers_small ck _ t cfg _ _ _ _ _ clock.fault (third_timers clock.third s.triggers h.timers) n;
      recovery = arbiter_small ck _ _ _ _ _ _ (third_recovery clock.third s.arbiter h.recovery) n;
      hold = gate_small ck s.disarm _ _ _ _ _ _ _ h.hold n;
      stored = filter_stored ck glitch t.now_ms t.position cfg.v_max stored (kept_stored (position_ok raw.position) raw.position p);
      last = last;
      epoch = epoch;
    })
    (confirmed_disarm ck t.now_ms t.armed cfg.status_fresh_ms)
  where
    fresh_timers : Within (timer_cells fresh_triggers)
    fresh_timers = fresh_typed.timers

-- ---- telemetry read from bytes

pub read_now : (s : List ℕ) → Bytes s → (telemetry_at s).now_ms < 2 ^ 32
unfolding telemetry_at
read_now s b = u32_lt s 4 b

pub read_position : (s : List ℕ) → Bytes s → Stored (telemetry_at s).position
unfolding telemetry_at option_position_at vec3_at
read_position s b = at (flag_at s 8)
  where
    at : (f : Bool) → Stored (cond f (Some (record { t_ms = u32_at s 9; pos = vec3_at s 13; vel = vec3_at s 25 })) None)
    at true = (u32_lt s 9 b, (f32_fits s 13, (f32_fits s 17, (f32_fits s 21, (f32_fits s 25, (f32_fits s 29, (f32_fits s 33, tt)))))))
    at false = absent_stored
