-- The numbers of the enums' cases. "enum a byte in declared order from 0". Assumes nothing.
use Rattle.std.specs.Prelude.{ℕ, List, [], ◌∷◌, Option, Result, slice_get, ok_or}
use Rattle.types.specs.declared.GpsFix.{GpsFix}
use Rattle.types.specs.declared.LandedState.{LandedState}
use Rattle.types.specs.declared.Action.{Action}
use Rattle.types.specs.declared.Reason.{Reason}
use Rattle.types.specs.declared.UnknownNumber.{UnknownNumber}

abbrev pub fix_number : GpsFix → ℕ
fix_number GpsFix.None = 0
fix_number GpsFix.Fix2D = 1
fix_number GpsFix.Fix3D = 2

-- in declared order
abbrev pub fixes : List GpsFix
fixes = GpsFix.None ∷ GpsFix.Fix2D ∷ GpsFix.Fix3D ∷ []

-- the case with a number, where one has it
abbrev pub fix_of_number : ℕ → Result GpsFix UnknownNumber
fix_of_number n = ok_or (slice_get fixes n) (record {})

abbrev pub landed_number : LandedState → ℕ
landed_number LandedState.Undefined = 0
landed_number LandedState.OnGround = 1
landed_number LandedState.InAir = 2
landed_number LandedState.Takeoff = 3
landed_number LandedState.Landing = 4

-- in declared order
abbrev pub landed_states : List LandedState
landed_states = LandedState.Undefined ∷ LandedState.OnGround ∷ LandedState.InAir ∷ LandedState.Takeoff ∷ LandedState.Landing ∷ []

-- the case with a number, where one has it
abbrev pub landed_of_number : ℕ → Result LandedState UnknownNumber
landed_of_number n = ok_or (slice_get landed_states n) (record {})

-- an action's rank, which is also its place in declared order
abbrev pub rank : Action → ℕ
rank Action.Nominal = 0
rank Action.Warn = 1
rank Action.Hold = 2
rank Action.ReturnToLaunch = 3
rank Action.Land = 4

-- in declared order
abbrev pub actions : List Action
actions = Action.Nominal ∷ Action.Warn ∷ Action.Hold ∷ Action.ReturnToLaunch ∷ Action.Land ∷ []

-- the action of a rank, where one has it
abbrev pub action_of_rank : ℕ → Result Action UnknownNumber
action_of_rank n = ok_or (slice_get actions n) (record {})

-- a reason's slot, which is also its place in declared order
abbrev pub index : Reason → ℕ
index Reason.None = 0
index Reason.ClockFault = 1
index Reason.InvalidInput = 2
index Reason.StaleBattery = 3
index Reason.GcsLinkLost = 4
index Reason.RcLost = 5
index Reason.GpsDegraded = 6
index Reason.GpsLost = 7
index Reason.EkfUnhealthy = 8
index Reason.PositionInvalid = 9
index Reason.FenceApproach = 10
index Reason.FenceBreach = 11
index Reason.AltitudeMax = 12
index Reason.AltitudeMin = 13
index Reason.BatteryWarn = 14
index Reason.BatteryLow = 15
index Reason.BatteryCritical = 16
index Reason.EnergyRtlMarginal = 17
index Reason.EnergyRtlInfeasible = 18

-- in declared order
abbrev pub reasons : List Reason
reasons = Reason.None ∷ Reason.ClockFault ∷ Reason.InvalidInput ∷ Reason.StaleBattery ∷ Reason.GcsLinkLost ∷ Reason.RcLost ∷ Reason.GpsDegraded ∷ Reason.GpsLost ∷ Reason.EkfUnhealthy ∷ Reason.PositionInvalid ∷ Reason.FenceApproach ∷ Reason.FenceBreach ∷ Reason.AltitudeMax ∷ Reason.AltitudeMin ∷ Reason.BatteryWarn ∷ Reason.BatteryLow ∷ Reason.BatteryCritical ∷ Reason.EnergyRtlMarginal ∷ Reason.EnergyRtlInfeasible ∷ []

-- the reason of a slot, where one has it
abbrev pub from_index : ℕ → Option Reason
from_index n = slice_get reasons n

abbrev pub reason_of_index : ℕ → Result Reason UnknownNumber
reason_of_index n = ok_or (from_index n) (record {})

-- "highest rank, then highest display_priority"
abbrev pub display_priority : Reason → ℕ
display_priority Reason.None = 0
display_priority Reason.ClockFault = 6
display_priority Reason.InvalidInput = 5
display_priority Reason.StaleBattery = 9
display_priority Reason.GcsLinkLost = 10
display_priority Reason.RcLost = 11
display_priority Reason.GpsDegraded = 4
display_priority Reason.GpsLost = 15
display_priority Reason.EkfUnhealthy = 16
display_priority Reason.PositionInvalid = 14
display_priority Reason.FenceApproach = 3
display_priority Reason.FenceBreach = 13
display_priority Reason.AltitudeMax = 12
display_priority Reason.AltitudeMin = 2
display_priority Reason.BatteryWarn = 1
display_priority Reason.BatteryLow = 8
display_priority Reason.BatteryCritical = 18
display_priority Reason.EnergyRtlMarginal = 7
display_priority Reason.EnergyRtlInfeasible = 17
