-- The claim: each reason's slot is filed as its row says, by a step of the triggers and by a whole step. Assumes nothing.
use Rattle.std.specs.Prelude.{ℕ, Bool, true, false, ◌≡◌, length, get_or, Float, Option, Some, None}
use Rattle.types.specs.declared.Reason.{Reason}
use Rattle.types.specs.declared.Request.{Request}
use Rattle.types.specs.declared.ActiveSet.{ActiveSet}
use Rattle.types.specs.declared.Telemetry.{Telemetry}
use Rattle.types.specs.Numbers.{index}
use Rattle.time.specs.Time.{Clock}
use Rattle.config.specs.declared.Config.{Config}
use Rattle.validate.specs.Bounds.{validate_telemetry}
use Rattle.validate.specs.Glitch.{apply_glitch_filter}
use Rattle.validate.specs.Fresh.{position_valid, fresh_remaining_wh}
use Rattle.triggers.specs.declared.TriggerState.{TriggerState}
use Rattle.triggers.specs.declared.Updated.{Updated}
use Rattle.triggers.specs.Update.{update}
use Rattle.supervisor.specs.declared.Supervisor.{Supervisor}
use Rattle.supervisor.specs.Settings.{Settings, Fed}
use Rattle.supervisor.specs.Step.{place_of, valid_place, energy_at, margin_at, step}
use Rattle.step_laws.specs.Laws.{clock_at, validated, disarms, after}
use Rattle.reasons.specs.Reasons.{is_filed, filed, filed_on_fault, filed_on_disarm, battery_latch, energy_latch, link_stage, raised_next}
use Rattle.types.specs.declared.PositionSample.{PositionSample}
use Rattle.types.specs.declared.Action.{Action}
use Rattle.triggers.specs.declared.Place.{Place}

-- what a reason's slot holds: the request for the action, where there is one
abbrev pub slot_for : Reason → Option Action → Option Request
slot_for r None = None
slot_for r (Some a) = Some (record { reason = r; action = a })

-- the nineteen slots are filed by a rule
pub record Files (s : ActiveSet) (rule : Reason → Option Action) : Type 0 where
  pub count : length s.reqs ≡ 19
  pub slot : (r : Reason) → get_or s.reqs (index r) None ≡ slot_for r (rule r)

-- ---- a step of the triggers, on any readings

module _ (clock : Clock) (before : TriggerState) (t : Telemetry) (cfg : Config) (min_alt max_alt : Float) (place : Option Place) (margin : Option Float) (invalid : Bool) where
  -- the latches, the link's stage and what is raised after a sound step
  pub record Left (s : TriggerState) : Type 0 where
    pub battery_latch_lem : s.battery_critical_latched ≡ battery_latch clock before t cfg min_alt max_alt place margin invalid
    pub energy_latch_lem : s.energy_infeasible_latched ≡ energy_latch clock before t cfg min_alt max_alt place margin invalid
    pub link_stage_lem : s.gcs_stage ≡ link_stage clock before t cfg min_alt max_alt place margin invalid
    pub invalid_active : s.invalid_active ≡ is_filed (filed clock before t cfg min_alt max_alt place margin invalid Reason.InvalidInput)
    pub raised_next_lem : s.raised ≡ raised_next clock before t cfg min_alt max_alt place margin invalid

  abbrev updated : Bool → Updated
  updated = update clock before t cfg min_alt max_alt place margin invalid

  pub record UpdateReasons : Type 0 where
    pub sound : Files (updated false).active (filed clock before t cfg min_alt max_alt place margin invalid)
    pub sound_left : Left (updated false).triggers
    pub fault : Files (updated true).active filed_on_fault
    pub fault_left : (updated true).triggers ≡ before

abbrev pub UpdateClaim : Type 0
UpdateClaim =
    (clock : Clock) (before : TriggerState) (t : Telemetry) (cfg : Config) (min_alt max_alt : Float) (place : Option Place) (margin : Option Float) (invalid : Bool)
    → UpdateReasons clock before t cfg min_alt max_alt place margin invalid

-- ---- a whole step, at its validated readings

module _ (r : Settings) (s : Supervisor) (fed : Fed) where
  abbrev now : ℕ
  now = (validated r s fed).now_ms

  -- what the glitch filter lets through
  abbrev pub filtered : Option PositionSample
  filtered = (apply_glitch_filter r.clock s.glitch now (validated r s fed).position r.cfg.v_max).position

  -- what is read at it
  abbrev pub place_at : Option Place
  place_at = place_of fed.site.near filtered

  -- for fence and altitudes it must be valid: fresh, with a fresh ekf_ok of true
  abbrev pub valid_place_at : Option Place
  valid_place_at = valid_place (position_valid r.clock now filtered (validated r s fed).ekf_ok r.cfg.pos_fresh_ms r.cfg.status_fresh_ms) place_at

  -- for the energy it need not be valid
  abbrev pub margin_left : Option Float
  margin_left =
      margin_at place_at
      (energy_at r.cfg place_at (fresh_remaining_wh r.clock now (validated r s fed).battery r.cfg.battery_fresh_ms r.cfg.usable_capacity_wh)).margin_wh

  abbrev pub invalid_at : Bool
  invalid_at = (validate_telemetry fed.telemetry r.cfg.usable_capacity_wh).invalid_input

  pub record StepReasons : Type 0 where
    -- at a sound step that is no confirmed disarm, by the rows
    pub sound : (clock_at r s fed).fault ≡ false → disarms r s fed ≡ false
        → Files (step r s fed).decision.active (filed r.clock s.triggers (validated r s fed) r.cfg fed.site.min_alt fed.site.max_alt valid_place_at margin_left invalid_at)
    pub sound_left : (clock_at r s fed).fault ≡ false → disarms r s fed ≡ false
        → Left r.clock s.triggers (validated r s fed) r.cfg fed.site.min_alt fed.site.max_alt valid_place_at margin_left invalid_at (after r s fed).triggers
    -- at a faulted one ClockFault alone
    pub fault : (clock_at r s fed).fault ≡ true → disarms r s fed ≡ false → Files (step r s fed).decision.active filed_on_fault
    -- at a confirmed disarm, faulted or not, nothing; and no latch is left
    pub disarm : disarms r s fed ≡ true → Files (step r s fed).decision.active filed_on_disarm
    pub disarm_latches : disarms r s fed ≡ true → ((after r s fed).triggers.battery_critical_latched ≡ false) × ((after r s fed).triggers.energy_infeasible_latched ≡ false)

abbrev pub StepReasonsClaim : Type 0
StepReasonsClaim = (r : Settings) (s : Supervisor) (fed : Fed) → StepReasons r s fed
