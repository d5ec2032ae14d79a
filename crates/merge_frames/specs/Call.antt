-- Document 02, L10, on bytes: the number returned and the output, for all bytes. "Turned away: configuration and fence as in a step, the first frame's
-- faults, then the second's, then 38 where the two now_ms differ, then 5 for an output under 106 bytes; the output is untouched." Assumes nothing.
use Rattle.flight.specs.declared.FlightError.{FlightError}
use Rattle.wire.specs.declared.FrameError.{FrameError}
use Rattle.std.specs.Prelude.{ℕ, cond, List, eqb, Float, Result, Ok, Err, ⊤}
use Rattle.types.specs.declared.Telemetry.{Telemetry}
use Rattle.wire.specs.Fields.{f32_at}
use Rattle.wire.specs.Frame.{room_fault, frame_written, frame_error_number}
use Rattle.frame_telemetry.specs.TelemetryFrame.{read_telemetry, telemetry_frame}
use Rattle.flight.specs.declared.Flight.{Flight}
use Rattle.flight.specs.Flight.{read_flight, flight_error_number}
use Rattle.merge.specs.Merge.{merge_telemetry}
use Rattle.merge_frames.specs.declared.MergeError.{MergeError}

-- a call's number and output at its end
pub record MergeCall : Type 0 where
  pub number : ℕ
  pub output : List ℕ

abbrev pub declined : ℕ → List ℕ → MergeCall
declined n output = record { number = n; output = output }

-- 0 and the frame in the first 106 bytes, or 5
abbrev pub wrote : Telemetry → List ℕ → MergeCall
wrote t output = record { number = room_fault (telemetry_frame t) output; output = frame_written (telemetry_frame t) output }

-- ".. then 38 where the two now_ms differ, then 5 .."
unfoldable pub merge_read : Float → Telemetry → Telemetry → List ℕ → MergeCall
merge_read cap a b output = cond (eqb a.now_ms b.now_ms) (wrote (merge_telemetry cap a b) output) (declined 38 output)

-- ".. then the second's .."
abbrev pub after_second : Float → Telemetry → Result Telemetry FrameError → List ℕ → MergeCall
after_second cap a (Err d) output = declined (frame_error_number d) output
after_second cap a (Ok b) output = merge_read cap a b output

-- ".. the first frame's faults .."
abbrev pub after_first : Float → Result Telemetry FrameError → List ℕ → List ℕ → MergeCall
after_first cap (Err d) second output = declined (frame_error_number d) output
after_first cap (Ok a) second output = after_second cap a (read_telemetry second) output

-- "configuration and fence as in a step .."
abbrev pub after_flight : Result Flight FlightError → List ℕ → List ℕ → List ℕ → MergeCall
after_flight (Err e) first second output = declined (flight_error_number e) output
after_flight (Ok f) first second output = after_first f.cfg.usable_capacity_wh (read_telemetry first) second output

unfoldable pub merge_call : List ℕ → List ℕ → List ℕ → List ℕ → List ℕ → MergeCall
merge_call config fence first second output = after_flight (read_flight config fence) first second output

-- the same where configuration and fence were accepted before: an accepted configuration has its capacity at byte 5
unfoldable pub merge_accepted : List ℕ → List ℕ → List ℕ → List ℕ → MergeCall
merge_accepted config first second output = after_first (f32_at config 5) (read_telemetry first) second output

-- the same behind a check of configuration and fence, whose number this is
unfoldable pub merge_checked : ℕ → List ℕ → List ℕ → List ℕ → List ℕ → MergeCall
merge_checked n config first second output = cond (eqb n 0) (merge_accepted config first second output) (declined n output)

-- the numbers of the refusals; 0 for none
abbrev pub merge_error_number : MergeError → ℕ
merge_error_number (MergeError.Frame e) = frame_error_number e
merge_error_number MergeError.ClocksDiffer = 38

abbrev pub merge_number : Result ⊤ MergeError → ℕ
merge_number (Ok tt) = 0
merge_number (Err e) = merge_error_number e
