-- A reason's slot is below nineteen and tells the reason; each enum's byte tells its case. Assumes nothing.
use Rattle.std.specs.Prelude.{Option, Some, None, Ok, ok_or}
use Rattle.std.specs.Result.{result_ok}
use Prim.Native.Nat.{◌<◌}
use mathlib.Core.Path.{◌≡◌, refl, sym, ap, ◌∙◌}
use lib.Dec.{lit<}
use Rattle.types.specs.declared.GpsFix.{GpsFix}
use Rattle.types.specs.declared.LandedState.{LandedState}
use Rattle.types.specs.declared.Action.{Action}
use Rattle.types.specs.declared.Reason.{Reason}
use Rattle.types.specs.Numbers.{fix_number, fix_of_number, landed_number, landed_of_number, rank, action_of_rank, index, from_index, reason_of_index}

-- a reason has a slot
pub index_lt : (r : Reason) → index r < 19
index_lt Reason.None = lit< tt
index_lt Reason.ClockFault = lit< tt
index_lt Reason.InvalidInput = lit< tt
index_lt Reason.StaleBattery = lit< tt
index_lt Reason.GcsLinkLost = lit< tt
index_lt Reason.RcLost = lit< tt
index_lt Reason.GpsDegraded = lit< tt
index_lt Reason.GpsLost = lit< tt
index_lt Reason.EkfUnhealthy = lit< tt
index_lt Reason.PositionInvalid = lit< tt
index_lt Reason.FenceApproach = lit< tt
index_lt Reason.FenceBreach = lit< tt
index_lt Reason.AltitudeMax = lit< tt
index_lt Reason.AltitudeMin = lit< tt
index_lt Reason.BatteryWarn = lit< tt
index_lt Reason.BatteryLow = lit< tt
index_lt Reason.BatteryCritical = lit< tt
index_lt Reason.EnergyRtlMarginal = lit< tt
index_lt Reason.EnergyRtlInfeasible = lit< tt

-- the case of a case's number is that case
pub from_index_lem : (r : Reason) → from_index (index r) ≡ Some r
from_index_lem Reason.None = refl
from_index_lem Reason.ClockFault = refl
from_index_lem Reason.InvalidInput = refl
from_index_lem Reason.StaleBattery = refl
from_index_lem Reason.GcsLinkLost = refl
from_index_lem Reason.RcLost = refl
from_index_lem Reason.GpsDegraded = refl
from_index_lem Reason.GpsLost = refl
from_index_lem Reason.EkfUnhealthy = refl
from_index_lem Reason.PositionInvalid = refl
from_index_lem Reason.FenceApproach = refl
from_index_lem Reason.FenceBreach = refl
from_index_lem Reason.AltitudeMax = refl
from_index_lem Reason.AltitudeMin = refl
from_index_lem Reason.BatteryWarn = refl
from_index_lem Reason.BatteryLow = refl
from_index_lem Reason.BatteryCritical = refl
from_index_lem Reason.EnergyRtlMarginal = refl
from_index_lem Reason.EnergyRtlInfeasible = refl

pub reason_of_index_lem : (r : Reason) → reason_of_index (index r) ≡ Ok r
reason_of_index_lem r = ap (λ (o : Option Reason). ok_or o (record {})) (from_index_lem r)

-- what is read with an error is read
pub read_back : {E : Type 0} (o : Option Reason) (e : E) → result_ok (ok_or o e) ≡ o
read_back None e = refl
read_back (Some r) e = refl

-- the same for the other enums with a byte
pub fix_of_number_lem : (r : GpsFix) → fix_of_number (fix_number r) ≡ Ok r
fix_of_number_lem GpsFix.None = refl
fix_of_number_lem GpsFix.Fix2D = refl
fix_of_number_lem GpsFix.Fix3D = refl

pub landed_of_number_lem : (r : LandedState) → landed_of_number (landed_number r) ≡ Ok r
landed_of_number_lem LandedState.Undefined = refl
landed_of_number_lem LandedState.OnGround = refl
landed_of_number_lem LandedState.InAir = refl
landed_of_number_lem LandedState.Takeoff = refl
landed_of_number_lem LandedState.Landing = refl

pub action_of_rank_lem : (r : Action) → action_of_rank (rank r) ≡ Ok r
action_of_rank_lem Action.Nominal = refl
action_of_rank_lem Action.Warn = refl
action_of_rank_lem Action.Hold = refl
action_of_rank_lem Action.ReturnToLaunch = refl
action_of_rank_lem Action.Land = refl

-- so two cases with the same number are the same
pub index_tells : (p q : Reason) → index p ≡ index q → p ≡ q
index_tells p q e = let f : Ok p ≡ Ok q = sym (reason_of_index_lem p) ∙ ap reason_of_index e ∙ reason_of_index_lem q in cc

pub rank_tells : (a b : Action) → rank a ≡ rank b → a ≡ b
rank_tells a b e = let f : Ok a ≡ Ok b = sym (action_of_rank_lem a) ∙ ap action_of_rank e ∙ action_of_rank_lem b in cc
