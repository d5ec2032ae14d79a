-- Document 01, 'arbiter': what is wanted, and what is shown. Assumes nothing.
use Rattle.std.specs.Prelude.{ℕ, Bool, true, false, not, ◌&&◌, cond, leb, Option, Some, None}
use Rattle.types.specs.declared.Action.{Action}
use Rattle.types.specs.declared.Reason.{Reason}
use Rattle.types.specs.declared.Request.{Request}
use Rattle.types.specs.Numbers.{rank}
use Rattle.time.specs.Time.{Clock, hold_met}
use Rattle.arbiter.specs.declared.ArbiterState.{ArbiterState}
use Rattle.arbiter.specs.declared.Arbitrated.{Arbitrated}

-- Nominal was shown, and no recovery has begun
abbrev pub fresh_arbiter : ArbiterState
fresh_arbiter = record { prev_output = Action.Nominal; prev_reason = Reason.None; recovery_since_ms = None }

unfoldable pub without_recovery : ArbiterState → ArbiterState
without_recovery s = record { prev_output = s.prev_output; prev_reason = s.prev_reason; recovery_since_ms = None }

abbrev pub request : Reason → Action → Request
request r a = record { reason = r; action = a }

-- the term 'wanted': "Wanted action: the requested one, or Land under a latch, battery named first."
abbrev pub wanted : Request → Bool → Bool → Request
wanted requested battery_latched energy_latched =
    cond battery_latched (request Reason.BatteryCritical Action.Land)
    (cond energy_latched (request Reason.EnergyRtlInfeasible Action.Land)
    requested)

-- what was shown one step before
abbrev pub previous : ArbiterState → Request
previous s = request s.prev_reason s.prev_output

-- a request is shown, and the recovery began at a reading or has not begun
abbrev pub shown : Request → Option ℕ → Arbitrated
shown o since =
    record {
      state = record { prev_output = o.action; prev_reason = o.reason; recovery_since_ms = since };
      output = o;
    }

-- the recovery's start: this step where it had not begun
abbrev pub recovery_start : Option ℕ → ℕ → ℕ
recovery_start None now = now
recovery_start (Some since) now = since

-- a sound step that wants less than the previous output shows it where the recovery has lasted, and else the previous output again
unfoldable pub recover : Clock → ArbiterState → ℕ → ℕ → Request → Arbitrated
recover clock s now hold want =
    let since = recovery_start s.recovery_since_ms now in
    cond (hold_met clock now since hold) (shown want None) (shown (previous s) (Some since))

-- a fault shows the previous output again and leaves the recovery alone; what ranks at least as high as the previous output is shown at once
unfoldable pub apply_persistence : Clock → ArbiterState → ℕ → ℕ → Request → Bool → Arbitrated
apply_persistence clock s now hold want true = shown (previous s) s.recovery_since_ms
apply_persistence clock s now hold want false =
    cond (leb (rank s.prev_output) (rank want.action)) (shown want None) (recover clock s now hold want)

abbrev pub needs_position : Action → Bool
needs_position Action.Nominal = false
needs_position Action.Warn = false
needs_position Action.Hold = true
needs_position Action.ReturnToLaunch = true
needs_position Action.Land = false

-- the term 'changed to Land': "puts Land for Hold or ReturnToLaunch", for lack of position; this ends the recovery
unfoldable pub apply_feasibility : Arbitrated → Bool → Arbitrated
apply_feasibility a position_valid =
    cond (needs_position a.output.action && not position_valid) (shown (request Reason.PositionInvalid Action.Land) None) a

unfoldable pub arbitrate : Clock → ArbiterState → ℕ → ℕ → Request → Bool → Bool → Arbitrated
arbitrate clock s now hold want position_valid fault = apply_feasibility (apply_persistence clock s now hold want fault) position_valid
