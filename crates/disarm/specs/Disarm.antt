-- Document 01, 'disarm': the gate. Assumes nothing.
use Rattle.std.specs.Prelude.{ℕ, Bool, true, false, not, ◌&&◌, cond, Option, Some, None}
use Rattle.types.specs.declared.Action.{Action}
use Rattle.types.specs.declared.LandedState.{LandedState}
use Rattle.time.specs.Time.{Clock, hold_met}
use Rattle.validate.specs.Fresh.{fresh_true, fresh_landed}
use Rattle.disarm.specs.declared.DisarmGate.{DisarmGate}
use Rattle.disarm.specs.declared.Evaluated.{Evaluated}
use Rattle.types.specs.declared.Stamped.{Stamped}

-- no hold has begun
abbrev pub closed : DisarmGate
closed = record { hold_since_ms = None }

abbrev pub is_land : Action → Bool
is_land Action.Nominal = false
is_land Action.Warn = false
is_land Action.Hold = false
is_land Action.ReturnToLaunch = false
is_land Action.Land = true

abbrev pub grounded : LandedState → Bool
grounded LandedState.Undefined = false
grounded LandedState.OnGround = true
grounded LandedState.InAir = false
grounded LandedState.Takeoff = false
grounded LandedState.Landing = false

abbrev pub on_ground : Option LandedState → Bool
on_ground None = false
on_ground (Some l) = grounded l

-- "The gate uses the requested one before latches, so a latched Land alone never frees it." Armed and on the ground go by fresh readings.
unfoldable pub gate_open : Clock → ℕ → Option (Stamped Bool) → Option (Stamped LandedState) → ℕ → Action → Bool
gate_open clock now armed landed limit requested = is_land requested && fresh_true clock now armed limit && on_ground (fresh_landed clock now landed limit)

-- the hold's start: this step where it had not begun
abbrev pub hold_start : Option ℕ → ℕ → ℕ
hold_start None now = now
hold_start (Some since) now = since

unfoldable pub hold_from : Clock → Option ℕ → ℕ → ℕ → Evaluated
hold_from clock since now hold =
    record {
      gate = record { hold_since_ms = Some (hold_start since now) };
      eligible = hold_met clock now (hold_start since now) hold;
    }

-- eligible where the gate has been open for the hold. "Every fault resets the disarm hold."
unfoldable pub evaluate : Clock → DisarmGate → ℕ → Option (Stamped Bool) → Option (Stamped LandedState) → ℕ → ℕ → Action → Bool → Evaluated
evaluate clock g now armed landed limit hold requested fault =
    cond (gate_open clock now armed landed limit requested && not fault)
    (hold_from clock g.hold_since_ms now hold)
    (record { gate = closed; eligible = false })
