-- The number of a declined call is that of what declines it. Assumes nothing.
use Rattle.std.specs.Prelude.{ℕ, Result, Ok, Err, ⊤}
use Rattle.wire.specs.Frame.{frame_error_number}
use Rattle.flight.specs.Flight.{flight_error_number}
use Rattle.frame_areas.specs.AreaFrame.{area_error_number}
use Rattle.carry.specs.Carry.{carry_error_number}
use Rattle.entries.specs.declared.CallError.{CallError}

abbrev pub call_error_number : CallError → ℕ
call_error_number (CallError.Frame e) = frame_error_number e
call_error_number (CallError.Flight e) = flight_error_number e
call_error_number (CallError.Areas e) = area_error_number e
call_error_number (CallError.Carry e) = carry_error_number e

-- 0 for a call that is not declined
abbrev pub call_number : Result ⊤ CallError → ℕ
call_number (Ok tt) = 0
call_number (Err e) = call_error_number e
