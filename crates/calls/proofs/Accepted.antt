-- A call that returns 0 has an accepted flight and accepted areas. Assumes nothing.
use Prim.Native.Nat.{ℕ}
use mathlib.Core.Bool.{Bool, true, false, cond}
use mathlib.Core.List.{List}
use mathlib.Core.Path.{◌≡◌, refl}
use lib.Dec.{eqb}
use borrow.Author.Tests.{eqb-true, eqb-false}
use Rattle.std.specs.Prelude.{Result, Ok, Err}
use Rattle.frame_areas.specs.AreasFrame.{areas_fault}
use Rattle.flight.specs.declared.Flight.{Flight}
use Rattle.flight.specs.declared.FlightError.{FlightError}
use Rattle.flight.specs.Flight.{flight_or_blank}
use Rattle.flight.proofs.Numbers.{no_flight_zero}
use Rattle.calls.specs.Form.{form_of}
use Rattle.calls.specs.Entry.{flight_keeps, StepCall, declined, from_state, after_flight}

module _ (with_side : Bool) (areas state telemetry output : List ℕ) where
  abbrev flown : Flight → StepCall
  flown f = from_state with_side (form_of (flight_keeps f) state) f areas state telemetry output

  pub record Accepted (r : Result Flight FlightError) : Type 0 where
    pub flight : r ≡ Ok (flight_or_blank r)
    pub areas_accepted : areas_fault areas ≡ 0
    pub call : after_flight with_side r areas state telemetry output ≡ flown (flight_or_blank r)

  pub accepted : (r : Result Flight FlightError) → (after_flight with_side r areas state telemetry output).number ≡ 0 → Accepted r
  accepted (Err e) z = absurd (no_flight_zero e z)
  accepted (Ok f) z = at (eqb (areas_fault areas) 0) refl z
    where
      at : (b : Bool) → eqb (areas_fault areas) 0 ≡ b → (cond b (flown f) (declined (areas_fault areas) state output)).number ≡ 0 → Accepted (Ok f)
      at true e z = record { flight = refl; areas_accepted = eqb-true _ _ e; call = λ i. cond (e i) (flown f) (declined (areas_fault areas) state output) }
      at false e z = absurd (eqb-false _ _ e z)
