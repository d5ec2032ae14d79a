-- Document 01, 'Run and record': a run of the supervisor, its record, and its steps as the record gives them. Assumes nothing.
-- Lists have the latest step first. A run keeps its settings; each step is fed its telemetry and its site.
use Rattle.std.specs.Prelude.{ℕ, Bool, cond, List, [], ◌∷◌, map}
use Rattle.types.specs.declared.Action.{Action}
use Rattle.validate.specs.declared.GlitchState.{GlitchState}
use Rattle.validate.specs.Bounds.{validate_telemetry}
use Rattle.validate.specs.Glitch.{no_glitch}
use Rattle.validate.specs.Fresh.{confirmed_disarm}
use Rattle.triggers.specs.declared.TriggerState.{TriggerState}
use Rattle.triggers.specs.Update.{fresh_triggers}
use Rattle.arbiter.specs.Arbiter.{wanted}
use Rattle.supervisor.specs.declared.Supervisor.{Supervisor}
use Rattle.supervisor.specs.declared.Sensed.{Sensed}
use Rattle.supervisor.specs.Settings.{Settings, Fed}
use Rattle.supervisor.specs.Step as supervisor
use Rattle.ladder.specs.Ladder.{Step}
use Rattle.ladder.specs.Clock.{faulted, third}

-- "The record holds, for each step, all it was fed but the state, and the action its Decision shows"
pub record Line : Type 0 where
  pub fed : Fed
  pub action : Action

module _ (r : Settings) where
  -- ---- the run

  -- "A run is a list of step calls from a fresh state .. Each call gets the state that the last one returned"
  unfoldable pub state_after : List Fed → Supervisor
  state_after [] = supervisor.fresh_supervisor
  state_after (f ∷ earlier) = (supervisor.step r (state_after earlier) f).supervisor

  unfoldable pub record_of : List Fed → List Line
  record_of [] = []
  record_of (f ∷ earlier) =
      record { fed = f; action = (supervisor.step r (state_after earlier) f).decision.action } ∷ record_of earlier

-- ---- what is read off a record: below, "Nothing is read from the state image", and only previous_output reads an action shown

-- "the action shown one step before, Nominal at first"
abbrev pub previous_output : List Line → Action
previous_output [] = Action.Nominal
previous_output (e ∷ earlier) = e.action

abbrev pub reading : Line → ℕ
reading e = e.fed.telemetry.now_ms

abbrev pub readings : List Line → List ℕ
readings l = map reading l

-- "Valid position, requests and latches are what the rules above give, followed through the record from the first step":
-- what those rules keep from step to step
pub record Followed : Type 0 where
  pub triggers : TriggerState
  pub glitch : GlitchState

-- "Confirmed disarm is a fresh armed reading of false"
abbrev pub disarm : Settings → Line → Bool
disarm r e = confirmed_disarm r.clock (reading e) e.fed.telemetry.armed r.cfg.status_fresh_ms

module _ (r : Settings) where
  -- what the rules give at a step (at a confirmed disarm it plays no part), from what they kept and whether the step is faulted and a third
  unfoldable pub sensed : Followed → Fed → Bool → Bool → Sensed
  sensed f fed fault is_third =
      let v = validate_telemetry fed.telemetry r.cfg.usable_capacity_wh in
      supervisor.sense r fed.site
      (supervisor.triggers_after is_third f.triggers) (supervisor.glitch_after is_third f.glitch)
      v.telemetry v.invalid_input fault

  -- what the rules keep after a step; a confirmed disarm resets the triggers and not the filter
  abbrev pub keep : Followed → Fed → Bool → Bool → Bool → Followed
  keep f fed is_disarm fault is_third =
      let s = sensed f fed fault is_third in
      record {
        triggers = cond is_disarm fresh_triggers s.triggers;
        glitch = cond is_disarm (supervisor.glitch_after is_third f.glitch) s.glitch;
      }

  unfoldable pub followed : List Line → Followed
  followed [] = record { triggers = fresh_triggers; glitch = no_glitch }
  followed (e ∷ earlier) =
      keep (followed earlier) e.fed (disarm r e) (faulted r.clock (reading e) (readings earlier)) (third r.clock (reading e) (readings earlier))

  -- a step of the record, given the earlier ones
  unfoldable pub step_of : Line → List Line → Step
  step_of e earlier =
      let fault = faulted r.clock (reading e) (readings earlier) in
      let is_third = third r.clock (reading e) (readings earlier) in
      let s = sensed (followed earlier) e.fed fault is_third in
      record {
        now = reading e;
        disarm = disarm r e;
        faulted = fault;
        third = is_third;
        wanted = (wanted s.requested s.triggers.battery_critical_latched s.triggers.energy_infeasible_latched).action;
        position_valid = s.position_valid;
        previous_output = previous_output earlier;
        action = e.action;
      }

  unfoldable pub steps_of : List Line → List Step
  steps_of [] = []
  steps_of (e ∷ earlier) = step_of e earlier ∷ steps_of earlier
