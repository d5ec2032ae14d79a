-- Helpers of a step on a kind 10 state: the flight with marked durations, and the kind 10 after the step. Assumes nothing.
use Rattle.std.specs.Prelude.{ℕ, Bool, false, ◌&&◌, cond, List, ◌++◌, ◌≡◌, eqb, drop, Some, None}
use Rattle.time.specs.Time.{plain}
use Rattle.triggers.specs.Families.{gcs_age}
use Rattle.wire.specs.Fields.{u8_at, flag_at}
use Rattle.wire.specs.Frame.{frame_fault, frame_head}
use Rattle.flight.specs.declared.Flight.{Flight}
use Rattle.instants.specs.Retimed.{Instants, Stamps}
use Rattle.instants.specs.Listed.{listed, stamps_listed}
use Rattle.marks.specs.Marks.{marked_by, marks_of, stamp_marks_of}
use Rattle.frame_wide.specs.Resized.{widened}
use Rattle.frame_wide.specs.WideState.{state_gaps, state_on, wide_instants, instants_next}
use Rattle.frame_wide.specs.WideTelemetry.{telemetry_on, wide_stamps}
use Rattle.calls.specs.Form.{base, wide}
use Rattle.calls.specs.Entry.{StepCall, from_state}

abbrev pub marked_flight : Flight → ℕ → Flight
marked_flight f age = record { cfg = marked_by f.cfg age; fence = f.fence; lengths = f.lengths }

-- what a Decision's frame says: whether there is a distance, and whether the clock is faulted
abbrev pub has_distance : List ℕ → Bool
has_distance output = flag_at output 89

abbrev pub has_fault : List ℕ → Bool
has_fault output = flag_at output 65

-- a third fault in a row begins the count anew
abbrev pub has_third : List ℕ → List ℕ → Bool
has_third low output = has_fault output && eqb (u8_at low 184) 0

-- the kind 10 after a step: `low` is the kind 5 that the marked step wrote
abbrev pub widened_after : List ℕ → List ℕ → Instants → ℕ → ℕ → List ℕ → List ℕ
widened_after state low i now position output =
    frame_head 10 304 ++ widened state_gaps (listed (instants_next state i now position (has_distance output) (has_fault output) (has_third low output))) (drop 4 low)

-- what the code makes of a call: the step on the marks, and then the kind 10 where it stepped
module _ (with_side : Bool) (f : Flight) (areas state telemetry output : List ℕ) where
  abbrev pub instants_held : Instants
  instants_held = wide_instants state

  abbrev pub stamps_read : Stamps
  stamps_read = wide_stamps telemetry

  abbrev pub low_state : List ℕ
  low_state = state_on (listed (marks_of f.cfg stamps_read.now instants_held)) state

  abbrev pub low_telemetry : List ℕ
  low_telemetry = telemetry_on (stamps_listed (stamp_marks_of f.cfg stamps_read)) telemetry

  abbrev pub heartbeat_age : ℕ
  heartbeat_age = gcs_age plain stamps_read.now (cond (flag_at low_telemetry 77) (Some stamps_read.heartbeat) None)

  abbrev pub low_call : StepCall
  low_call = from_state with_side (base false) (marked_flight f heartbeat_age) areas low_state low_telemetry output

  unfoldable pub marked_call : StepCall
  marked_call =
      record {
        number = low_call.number;
        state = cond (eqb low_call.number 0) (widened_after state low_call.state instants_held stamps_read.now stamps_read.position low_call.output) state;
        output = low_call.output;
      }

-- on frames of kinds 10 and 9 by their heads, it is the call itself
abbrev pub MarkedCallClaim : Type 0
MarkedCallClaim =
    (with_side : Bool) (f : Flight) (areas state telemetry output : List ℕ) → frame_fault 10 304 state ≡ 0 → frame_fault 9 148 telemetry ≡ 0
    → from_state with_side wide f areas state telemetry output ≡ marked_call with_side f areas state telemetry output
