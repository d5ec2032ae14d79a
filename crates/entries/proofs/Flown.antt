-- A call by its flight and its areas: which refusal is first, and where it steps. Assumes nothing.
use Rattle.frame_fence.specs.declared.FenceRead.{FenceRead}
use Rattle.flight.specs.Flight.{read_flight, accept_flight, flight_error_number, refusal}
use Rattle.flight.specs.declared.FlightError.{FlightError}
use Rattle.flight.specs.declared.Flight.{Flight}
use Rattle.wire.specs.declared.FrameError.{FrameError}
use Rattle.std.specs.Prelude.{Ok, Err, Result}
use Prim.Native.Nat.{ℕ}
use mathlib.Core.Bool.{Bool, true, false, cond, not, ◌&&◌, false≢true}
use mathlib.Core.List.{List, []}
use mathlib.Core.Path.{◌≡◌, refl}
use lib.Dec.{eqb}
use Rattle.frame_config.specs.ConfigFrame.{keeps_raised, config_at, check_config_frame, read_config}
use Rattle.frame_areas.specs.AreasFrame.{areas_fault}
use Rattle.frame_fence.specs.FenceFrame.{read_fence}
use Rattle.frame_areas.proofs.None.{none_refused}
use Rattle.calls.specs.Form.{form_of}
use Rattle.calls.specs.Entry.{StepCall, flight_keeps, declined, from_state, refused_first, step_any, step_or_check}

-- a state of kind 10 is due beside a configuration of kind 1 alone
pub not_keeps : (keeps b : Bool) → (not keeps && b) ≡ true → keeps ≡ false
not_keeps false b h = refl
not_keeps true b h = absurd (false≢true h)

-- a refusal is the same with and without `checking`
either_way : (checking : Bool) (c : StepCall) → cond checking c c ≡ c
either_way true c = refl
either_way false c = refl

-- ---- which flight is read

module _ (config fence : List ℕ) where
  pub config_refused : (e : FrameError) → check_config_frame config ≡ Err e → read_flight config fence ≡ Err (FlightError.Frame e)
  unfolding read_flight read_config
  config_refused e h = rw h refl

  pub fence_refused : (e : FrameError) → check_config_frame config ≡ Ok tt → read_fence fence ≡ Err e → read_flight config fence ≡ Err (FlightError.Frame e)
  unfolding read_flight read_config
  fence_refused e h k = rw (h, k) refl

  pub flight_is : (read : FenceRead) → check_config_frame config ≡ Ok tt → read_fence fence ≡ Ok read → read_flight config fence ≡ accept_flight (config_at config (keeps_raised config)) read
  unfolding read_flight read_config
  flight_is read h k = rw (h, k) refl

-- ---- what the call is then

module _ (checking with_side : Bool) (config fence state telemetry output areas : List ℕ) where
  abbrev call : StepCall
  call = step_or_check checking with_side config fence state telemetry output areas

  pub refused_call : (e : FlightError) → read_flight config fence ≡ Err e → call ≡ declined (flight_error_number e) state output
  unfolding step_any step_or_check
  refused_call e h = rw h (either_way checking (declined (flight_error_number e) state output))

  module _ (f : Flight) (h : read_flight config fence ≡ Ok f) where
    pub areas_refused : (n : ℕ) → n ≡ areas_fault areas → eqb n 0 ≡ false → call ≡ declined n state output
    unfolding step_any step_or_check
    areas_refused n e z = rw (h, ← e, z) (either_way checking (declined n state output))

    pub checked : 0 ≡ areas_fault areas → checking ≡ true → call ≡ declined 0 state output
    unfolding step_any step_or_check
    checked e c = rw (h, ← e, c) refl

    pub flown : 0 ≡ areas_fault areas → checking ≡ false → call ≡ from_state with_side (form_of (flight_keeps f) state) f areas state telemetry output
    unfolding step_any step_or_check
    flown e c = rw (h, ← e, c) refl

-- without areas the first refusal is the flight's
pub checked_alone : (r : Result Flight FlightError) → refused_first r [] ≡ refusal r
checked_alone (Err e) = refl
checked_alone (Ok f) = none_refused
