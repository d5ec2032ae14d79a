-- Kind 9, document 02, L7: "Kind 9 is Telemetry .. with all instants in eight bytes": a kind 3 with its 11 instants in eight bytes each. Assumes nothing.
use Rattle.std.specs.Prelude.{ℕ, List, [], ◌∷◌, ◌++◌, drop, replicate, Result, Ok, Err}
use Rattle.std.specs.Result.{result_and}
use Rattle.types.specs.declared.Telemetry.{Telemetry}
use Rattle.wire.specs.declared.FrameError.{FrameError}
use Rattle.wire.specs.Frame.{check_frame, frame_head}
use Rattle.frame_telemetry.specs.TelemetryFrame.{read_telemetry, telemetry_frame}
use Rattle.instants.specs.Retimed.{Stamps, telemetry_at}
use Rattle.instants.specs.Own.{stamps_of}
use Rattle.instants.specs.Listed.{stamps_listed, stamps_unlisted}
use Rattle.frame_wide.specs.Resized.{instants_at, narrowed, widened}

-- the bytes before each instant, from behind the head on: now_ms, the stamps of position, gps, voltage, percent and remaining, the heartbeat, and the stamps
-- of armed, landed, rc_ok and ekf_ok
unfoldable pub telemetry_gaps : List ℕ
telemetry_gaps = 0 ∷ 1 ∷ 25 ∷ 9 ∷ 5 ∷ 5 ∷ 5 ∷ 1 ∷ 2 ∷ 2 ∷ 2 ∷ []

-- the kind 3 of a kind 9's bytes, with these numbers for the instants that are there
unfoldable pub telemetry_on : List ℕ → List ℕ → List ℕ
telemetry_on given s = frame_head 3 104 ++ narrowed telemetry_gaps given (drop 4 s)

-- the 64-bit stamps of a kind 9
unfoldable pub wide_stamps : List ℕ → Stamps
wide_stamps s = stamps_unlisted (instants_at 8 telemetry_gaps (drop 4 s))

abbrev pub with_stamps : Stamps → Result Telemetry FrameError → Result Telemetry FrameError
with_stamps j (Ok t) = Ok (telemetry_at j t)
with_stamps j (Err e) = Err e

-- the frame read: the head; then it is judged as a kind 3, where no rule looks at an instant that is there, and has its own instants
unfoldable pub read_wide_telemetry : List ℕ → Result Telemetry FrameError
read_wide_telemetry s = result_and (check_frame 9 148 s) (with_stamps (wide_stamps s) (read_telemetry (telemetry_on (replicate 11 0) s)))

-- the whole frame
unfoldable pub wide_telemetry_frame : Telemetry → List ℕ
wide_telemetry_frame t = frame_head 9 148 ++ widened telemetry_gaps (stamps_listed (stamps_of t)) (drop 4 (telemetry_frame t))
