-- The number of what declines a call is not 0. Assumes nothing.
use Rattle.std.specs.Result.{is_ok}
use Rattle.std.specs.Prelude.{Result, Ok, Err}
use mathlib.Core.Path.{◌≡◌, ◌∙◌, ap, refl, sym}
use mathlib.Core.Bool.{false, true≢false}
use lib.Dec.{eqb}
use borrow.Author.Tests.{eqb-false}
use Rattle.wire.proofs.Head.{error_number}
use Rattle.frame_areas.specs.declared.AreaError.{AreaError}
use Rattle.frame_areas.specs.AreaFrame.{area_error_number}
use Rattle.carry.specs.declared.CarryError.{CarryError}
use Rattle.carry.specs.Carry.{carry_error_number}
use Rattle.flight.proofs.Numbers.{fence_number_not_0, flight_number_not_0}
use Rattle.entries.specs.declared.CallError.{CallError}
use Rattle.entries.specs.Errors.{call_error_number}

pub area_number_not_0 : (e : AreaError) → eqb (area_error_number e) 0 ≡ false
area_number_not_0 (AreaError.Frame e) = error_number e
area_number_not_0 (AreaError.Corners e) = fence_number_not_0 e
area_number_not_0 AreaError.NinthArea = refl
area_number_not_0 AreaError.AreaNumber = refl
area_number_not_0 AreaError.HomeInArea = refl

carry_number_not_0 : (e : CarryError) → eqb (carry_error_number e) 0 ≡ false
carry_number_not_0 CarryError.OtherReading = refl
carry_number_not_0 CarryError.NoAge = refl

pub call_number_not_0 : (e : CallError) → eqb (call_error_number e) 0 ≡ false
call_number_not_0 (CallError.Frame e) = error_number e
call_number_not_0 (CallError.Flight e) = flight_number_not_0 e
call_number_not_0 (CallError.Areas e) = area_number_not_0 e
call_number_not_0 (CallError.Carry e) = carry_number_not_0 e

pub no_call_zero : (e : CallError) → call_error_number e ≡ 0 → ⊥
no_call_zero e h = eqb-false _ 0 (call_number_not_0 e) h

-- a result is not both a value and an error
pub ok_err : {A E : Type 0} (r : Result A E) {v : A} {x : E} → r ≡ Ok v → r ≡ Err x → ⊥
ok_err r a b = true≢false (sym (ap is_ok a) ∙ ap is_ok b)
