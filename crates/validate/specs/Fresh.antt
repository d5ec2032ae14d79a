-- Readings that are fresh enough to go by. Assumes nothing.
use Rattle.std.specs.Prelude.{ℕ, Bool, false, cond, not, ◌&&◌, Float, Option, Some, None}
use Rattle.std.specs.Float.{binary32}
use Rattle.std.specs.Float.Ieee.{mul, div}
use Rattle.types.specs.declared.BatteryInputs.{BatteryInputs}
use Rattle.time.specs.Time.{Clock, fresh}
use Rattle.validate.specs.Bounds.{hundred}
use Rattle.types.specs.declared.Stamped.{Stamped}
use Rattle.types.specs.declared.LandedState.{LandedState}
use Rattle.types.specs.declared.PositionSample.{PositionSample}
use Rattle.types.specs.declared.GpsSample.{GpsSample}

-- a flag that is fresh and true
abbrev pub fresh_true : Clock → ℕ → Option (Stamped Bool) → ℕ → Bool
fresh_true clock now None limit = false
fresh_true clock now (Some r) limit = fresh clock now r.t_ms limit && r.value

-- "Confirmed disarm is a fresh armed reading of false."
abbrev pub confirmed_disarm : Clock → ℕ → Option (Stamped Bool) → ℕ → Bool
confirmed_disarm clock now None limit = false
confirmed_disarm clock now (Some r) limit = fresh clock now r.t_ms limit && not r.value

-- a fresh position and a fresh ekf_ok of true
abbrev pub position_valid : Clock → ℕ → Option PositionSample → Option (Stamped Bool) → ℕ → ℕ → Bool
position_valid clock now None ekf pos_limit status_limit = false
position_valid clock now (Some p) ekf pos_limit status_limit = fresh clock now p.t_ms pos_limit && fresh_true clock now ekf status_limit

-- a reading's value, where it is fresh
abbrev pub fresh_value : {A : Type 0} → Clock → ℕ → Option (Stamped A) → ℕ → Option A
fresh_value clock now None limit = None
fresh_value clock now (Some r) limit = cond (fresh clock now r.t_ms limit) (Some r.value) None

-- a reading of any type, where it is fresh by its stamp
abbrev pub fresh_reading : {A : Type 0} → (A → ℕ) → Clock → ℕ → Option A → ℕ → Option A
fresh_reading stamp clock now None limit = None
fresh_reading stamp clock now (Some r) limit = cond (fresh clock now (stamp r) limit) (Some r) None

-- a change of unit, and another reading where there is none
abbrev pub or_else : Option Float → (Float → Float) → Option Float → Option Float
or_else None f other = other
or_else (Some v) f other = Some (f v)

-- the charge in percent: of a fresh remaining_wh, else the fresh percentage
unfoldable pub fresh_battery_percent : Clock → ℕ → BatteryInputs → ℕ → Float → Option Float
fresh_battery_percent clock now b limit cap =
    or_else (fresh_value clock now b.remaining_wh limit) (λ r. mul binary32 (div binary32 r cap) hundred)
    (fresh_value clock now b.percent limit)

-- the charge in watt-hours: a fresh remaining_wh, else of the fresh percentage
unfoldable pub fresh_remaining_wh : Clock → ℕ → BatteryInputs → ℕ → Float → Option Float
fresh_remaining_wh clock now b limit cap =
    or_else (fresh_value clock now b.remaining_wh limit) (λ r. r)
    (or_else (fresh_value clock now b.percent limit) (λ p. mul binary32 (div binary32 p hundred) cap)
    None)

unfoldable pub fresh_voltage : Clock → ℕ → BatteryInputs → ℕ → Option Float
fresh_voltage clock now b limit = fresh_value clock now b.voltage_v limit

abbrev pub fresh_landed : Clock → ℕ → Option (Stamped LandedState) → ℕ → Option LandedState
fresh_landed = fresh_value

abbrev pub fresh_gps : Clock → ℕ → Option GpsSample → ℕ → Option GpsSample
fresh_gps = fresh_reading (λ g. g.t_ms)
