-- A call that returns a refusal leaves state and output as they were. Assumes nothing.
use Prim.Native.Nat.{ℕ}
use mathlib.Core.Bool.{Bool, true, false, cond, true≢false}
use mathlib.Core.List.{List}
use mathlib.Core.Path.{◌≡◌, refl}
use lib.Dec.{eqb, ltb}
use lib.ListN.{length}
use Rattle.supervisor.specs.declared.Supervisor.{Supervisor}
use Rattle.supervisor.specs.declared.Stepped.{Stepped}
use Rattle.flight.specs.declared.Flight.{Flight}
use Rattle.flight.specs.declared.FlightError.{FlightError}
use Rattle.flight.specs.Flight.{read_flight}
use Rattle.frame_areas.specs.AreasFrame.{areas_fault}
use Rattle.wire.specs.declared.FrameError.{FrameError}
use Rattle.types.specs.declared.Telemetry.{Telemetry}
use Rattle.std.specs.Prelude.{Result, Ok, Err}
use Rattle.calls.specs.Form.{Form, read_state_of, read_telemetry_of, form_of}
use Rattle.calls.specs.Entry.{flight_keeps, StepCall, declined, output_size, succeeded, written, step_of, after_telemetry, after_state, from_state, after_flight, step_any}

-- a call that is 0, or has both buffers as they were
abbrev Keeps : StepCall → List ℕ → List ℕ → Type 0
Keeps c state output = eqb c.number 0 ≡ false → (c.state ≡ state) × (c.output ≡ output)

module _ (with_side : Bool) where
  written_keeps : (form : Form) (next : Stepped) (state output : List ℕ) → Keeps (written with_side form next state output) state output
  written_keeps form next state output = at (ltb (length output) (output_size with_side))
    where
      at : (b : Bool) → Keeps (cond b (declined 5 state output) (succeeded with_side form next output)) state output
      at true e = (refl, refl)
      at false e = absurd (true≢false e)

  telemetry_keeps : (form : Form) (r : Result Telemetry FrameError) (f : Flight) (areas : List ℕ) (s : Supervisor) (state output : List ℕ) → Keeps (after_telemetry with_side form r f areas s state output) state output
  telemetry_keeps form (Err x) f areas s state output e = (refl, refl)
  telemetry_keeps form (Ok t) f areas s state output e = written_keeps form (step_of form f areas s t) state output e

  state_keeps : (form : Form) (r : Result Supervisor FrameError) (f : Flight) (areas state telemetry output : List ℕ) → Keeps (after_state with_side form r f areas state telemetry output) state output
  state_keeps form (Err x) f areas state telemetry output e = (refl, refl)
  state_keeps form (Ok s) f areas state telemetry output e = telemetry_keeps form (read_telemetry_of form telemetry) f areas s state output e

  flight_keeps_lem : (r : Result Flight FlightError) (areas state telemetry output : List ℕ) → Keeps (after_flight with_side r areas state telemetry output) state output
  flight_keeps_lem (Err x) areas state telemetry output e = (refl, refl)
  flight_keeps_lem (Ok f) areas state telemetry output e = at (eqb (areas_fault areas) 0) e
    where
      form : Form
      form = form_of (flight_keeps f) state

      at : (b : Bool) → Keeps (cond b (from_state with_side form f areas state telemetry output) (declined (areas_fault areas) state output)) state output
      at true e = state_keeps form (read_state_of form state) f areas state telemetry output e
      at false e = (refl, refl)

  pub declined_keeps : (config fence state telemetry output areas : List ℕ) → Keeps (step_any with_side config fence state telemetry output areas) state output
  unfolding step_any
  declined_keeps config fence state telemetry output areas = flight_keeps_lem (read_flight config fence) areas state telemetry output
