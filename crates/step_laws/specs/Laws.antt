-- Laws of a whole step that document 01 states: of every state, every settings and everything that a step can be fed. Assumes nothing.
use Rattle.std.specs.Prelude.{Bool, true, false, cond, ◌≡◌}
use Rattle.types.specs.declared.Action.{Action}
use Rattle.types.specs.declared.Telemetry.{Telemetry}
use Rattle.validate.specs.Bounds.{validate_telemetry}
use Rattle.validate.specs.Fresh.{confirmed_disarm}
use Rattle.validate.specs.Glitch.{no_glitch}
use Rattle.triggers.specs.Update.{fresh_triggers, without_gcs_timer}
use Rattle.arbiter.specs.Arbiter.{fresh_arbiter, without_recovery}
use Rattle.disarm.specs.Disarm.{closed}
use Rattle.supervisor.specs.declared.Supervisor.{Supervisor}
use Rattle.clock.specs.declared.ClockStep.{ClockStep}
use Rattle.supervisor.specs.declared.Stepped.{Stepped}
use Rattle.supervisor.specs.Settings.{Settings, Fed}
use Rattle.clock.specs.Clock.{clock_step}
use Rattle.supervisor.specs.Step.{sense, flown, step}

-- a state whose link timer, recovery start and filter are cleared, and nothing else
abbrev pub cleared_by_third : Supervisor → Supervisor
cleared_by_third s =
    record {
      triggers = without_gcs_timer s.triggers;
      arbiter = without_recovery s.arbiter;
      disarm = s.disarm;
      glitch = no_glitch;
      last_now = s.last_now;
      epoch_start = s.epoch_start;
      backwards_streak = s.backwards_streak;
      initialized = s.initialized;
    }

module _ (r : Settings) (s : Supervisor) (fed : Fed) where
  -- what the clock says of the step's reading
  abbrev pub clock_at : ClockStep
  clock_at = clock_step r.clock s.last_now s.epoch_start s.backwards_streak s.initialized fed.telemetry.now_ms

  abbrev pub validated : Telemetry
  validated = (validate_telemetry fed.telemetry r.cfg.usable_capacity_wh).telemetry

  -- whether the step is a confirmed disarm
  abbrev pub disarms : Bool
  disarms = confirmed_disarm r.clock validated.now_ms validated.armed r.cfg.status_fresh_ms

  -- a step's rest, once the clock has been read: what is sensed and shown from a state
  abbrev pub rest_from : Supervisor → Stepped
  rest_from x =
      flown r
      (sense r fed.site x.triggers x.glitch validated (validate_telemetry fed.telemetry r.cfg.usable_capacity_wh).invalid_input clock_at.fault)
      x.arbiter
      x.disarm
      clock_at
      validated

  abbrev pub after : Supervisor
  after = (step r s fed).supervisor

  pub record StepLaws : Type 0 where
    -- "Every fault resets the disarm hold."
    pub fault_resets_hold : clock_at.fault ≡ true → (after.disarm ≡ closed) × ((step r s fed).decision.disarm_eligible ≡ false)
    -- a fault moves no timer and no latch: the triggers stay, but for the link timer at a third one
    pub fault_keeps_triggers : clock_at.fault ≡ true → disarms ≡ false → after.triggers ≡ cond clock_at.third (without_gcs_timer s.triggers) s.triggers
    -- a third fault in a row clears "the link timer, recovery start and filter", and nothing else: the rest is as from that state
    pub third_clears : clock_at.third ≡ true → disarms ≡ false → step r s fed ≡ rest_from (cleared_by_third s)
    pub else_clears_nothing : clock_at.third ≡ false → disarms ≡ false → step r s fed ≡ rest_from s
    -- a confirmed disarm "answers Nominal even on a fault and resets neither filter nor clock", but triggers, arbiter and hold
    pub disarm_answers : disarms ≡ true → (step r s fed).decision.action ≡ Action.Nominal
    pub disarm_resets : disarms ≡ true → (after.triggers ≡ fresh_triggers) × (after.arbiter ≡ fresh_arbiter) × (after.disarm ≡ closed)
    pub disarm_keeps_filter : disarms ≡ true → clock_at.third ≡ false → after.glitch ≡ s.glitch
    -- the clock goes on as at any other step
    pub clock_goes_on : (after.last_now ≡ clock_at.last_now) × (after.epoch_start ≡ clock_at.epoch_start) × (after.backwards_streak ≡ clock_at.backwards_streak)
    -- latches last until confirmed disarm
    pub battery_latch_lem : disarms ≡ false → s.triggers.battery_critical_latched ≡ true → after.triggers.battery_critical_latched ≡ true
    pub energy_latch_lem : disarms ≡ false → s.triggers.energy_infeasible_latched ≡ true → after.triggers.energy_infeasible_latched ≡ true

abbrev pub StepClaim : Type 0
StepClaim = (r : Settings) (s : Supervisor) (fed : Fed) → StepLaws r s fed
