-- The C host's entries: the number returned and every buffer, for all bytes. Assumes nothing.
use Rattle.std.specs.Prelude.{ℕ, Bool, true, false, cond, List, ◌++◌, eqb, ltb, length, drop, Result, Ok, Err}
use Rattle.types.specs.declared.Decision.{Decision}
use Rattle.types.specs.declared.Telemetry.{Telemetry}
use Rattle.supervisor.specs.declared.Supervisor.{Supervisor}
use Rattle.supervisor.specs.declared.Stepped.{Stepped}
use Rattle.supervisor.specs.Settings.{fence_site_by, with_areas, fed_at}
use Rattle.supervisor.specs.Step.{fresh_supervisor, step}
use Rattle.wire.specs.declared.FrameError.{FrameError}
use Rattle.wire.specs.Frame.{frame_error_number, room_fault, frame_written}
use Rattle.frame_decision.specs.DecisionFrame.{decision_frame}
use Rattle.frame_side.specs.SideFrame.{side_frame}
use Rattle.flight.specs.declared.Flight.{Flight}
use Rattle.flight.specs.declared.FlightError.{FlightError}
use Rattle.flight.specs.Flight.{flight_error_number, read_flight}
use Rattle.frame_areas.specs.AreasFrame.{areas_fault}
use Rattle.calls.specs.Form.{Form, settings_of, read_state_of, state_frame_of, read_telemetry_of, form_of}

-- a call's number and buffers at its end
pub record StepCall : Type 0 where
  pub number : ℕ
  pub state : List ℕ
  pub output : List ℕ

-- a refusal, with what document 01 says is "left as it was": state, output
abbrev pub declined : ℕ → List ℕ → List ℕ → StepCall
declined n state output = record { number = n; state = state; output = output }

-- what a step entry writes of a step: kind 4; document 02, L1: "A further C entry writes the Decision as kind 6"
abbrev pub output_frame : Bool → Decision → ℕ → List ℕ
output_frame false d side = decision_frame d
output_frame true d side = side_frame d side

-- 95 bytes; "Refusal 5 then counts 96 bytes"
abbrev pub output_size : Bool → ℕ
output_size false = 95
output_size true = 96

-- document 02, L11: whether the flight's state is kind 12, its configuration being of kind 11
abbrev pub flight_keeps : Flight → Bool
flight_keeps f = f.cfg.keeps_raised

-- "State and the first 95 output bytes are rewritten on success, which returns 0; later output bytes stay."
abbrev pub succeeded : Bool → Form → Stepped → List ℕ → StepCall
succeeded with_side form next output =
    record { number = 0; state = state_frame_of form next.supervisor; output = output_frame with_side next.decision next.side ++ drop (output_size with_side) output }

-- ".. output": 5 where it is under 95 bytes
abbrev pub written : Bool → Form → Stepped → List ℕ → List ℕ → StepCall
written with_side form next state output = cond (ltb (length output) (output_size with_side)) (declined 5 state output) (succeeded with_side form next output)

-- one step of an accepted flight on the form's clock, with the lengths that the flight holds, and with the keep-out areas of a frame
abbrev pub step_of : Form → Flight → List ℕ → Supervisor → Telemetry → Stepped
step_of form f areas s t = step (settings_of form f.cfg) s (fed_at (with_areas areas (fence_site_by f.fence f.lengths)) t)

-- ".. state, telemetry .."
abbrev pub after_telemetry : Bool → Form → Result Telemetry FrameError → Flight → List ℕ → Supervisor → List ℕ → List ℕ → StepCall
after_telemetry with_side form (Err e) f areas s state output = declined (frame_error_number e) state output
after_telemetry with_side form (Ok t) f areas s state output = written with_side form (step_of form f areas s t) state output

abbrev pub after_state : Bool → Form → Result Supervisor FrameError → Flight → List ℕ → List ℕ → List ℕ → List ℕ → StepCall
after_state with_side form (Err e) f areas state telemetry output = declined (frame_error_number e) state output
after_state with_side form (Ok s) f areas state telemetry output = after_telemetry with_side form (read_telemetry_of form telemetry) f areas s state output

-- a state's image and what follows it, in a form
abbrev pub from_state : Bool → Form → Flight → List ℕ → List ℕ → List ℕ → List ℕ → StepCall
from_state with_side form f areas state telemetry output = after_state with_side form (read_state_of form state) f areas state telemetry output

-- "configuration frame, fence frame, fence rules, configuration rules"; document 02, L3, of the areas: "after the configuration rules"; the first refusal
abbrev pub refused_first : Result Flight FlightError → List ℕ → ℕ
refused_first (Err e) areas = flight_error_number e
refused_first (Ok f) areas = areas_fault areas

-- an accepted flight, and the number of its areas' refusal
abbrev pub after_areas : Bool → ℕ → Flight → List ℕ → List ℕ → List ℕ → List ℕ → StepCall
after_areas with_side n f areas state telemetry output =
    cond (eqb n 0) (from_state with_side (form_of (flight_keeps f) state) f areas state telemetry output) (declined n state output)

abbrev pub after_flight : Bool → Result Flight FlightError → List ℕ → List ℕ → List ℕ → List ℕ → StepCall
after_flight with_side (Err e) areas state telemetry output = declined (flight_error_number e) state output
after_flight with_side (Ok f) areas state telemetry output = after_areas with_side (areas_fault areas) f areas state telemetry output

-- a call of any step entry: `with_side` is whether it writes kind 6, and `areas` is empty where it takes none
unfoldable pub step_any : Bool → List ℕ → List ℕ → List ℕ → List ℕ → List ℕ → List ℕ → StepCall
step_any with_side config fence state telemetry output areas = after_flight with_side (read_flight config fence) areas state telemetry output

-- the same, or with `checking` configuration, fence and areas alone: the first refusal, and nothing is written
unfoldable pub step_or_check : Bool → Bool → List ℕ → List ℕ → List ℕ → List ℕ → List ℕ → List ℕ → StepCall
step_or_check checking with_side config fence state telemetry output areas =
    cond checking (declined (refused_first (read_flight config fence) areas) state output) (step_any with_side config fence state telemetry output areas)

pub record FreshCall : Type 0 where
  pub number : ℕ
  pub state : List ℕ

-- "Another entry writes a fresh state frame into the first 186 bytes of a state slice; later bytes stay." Further ones write a kind 12 and a kind 10:
-- "refusal 5 counts 194 bytes for a fresh one", "5 where the new state's slice is under 306 bytes (also for a fresh kind 10)"
unfoldable pub fresh_call : Form → List ℕ → FreshCall
fresh_call form state =
    record {
      number = room_fault (state_frame_of form fresh_supervisor) state;
      state = frame_written (state_frame_of form fresh_supervisor) state;
    }
