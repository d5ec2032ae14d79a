-- A call of the entry: the number and both slices, for all bytes. Assumes nothing.
use Rattle.std.specs.Prelude.{ℕ, zero, suc, ◌/◌, min, false, cond, List, [], ◌++◌, length, drop, nat_lt, Result, Ok, Err}
use Rattle.wire.specs.Fields.{u32_at, flag_at, byte_below, le32, le_flag}
use Rattle.frame_telemetry.specs.TelemetryFrame.{telemetry_frame}
use Rattle.trial.specs.declared.Generator.{Generator}
use Rattle.trial.specs.declared.NextFrame.{NextFrame}
use Rattle.wire.specs.declared.FrameError.{FrameError}
use Rattle.wire.specs.Frame.{frame_error_number}
use Rattle.trial.specs.Trial.{next_frame}

-- the generator's 9 bytes: x, now_ms, and a byte that is 0 before the first frame and 1 after it
unfoldable pub generator_at : List ℕ → Generator
generator_at s = record { x = u32_at s 0; now_ms = u32_at s 4; begun = flag_at s 8 }

unfoldable pub generator_bytes : Generator → List ℕ
generator_bytes g = le32 g.x ++ (le32 g.now_ms ++ le_flag g.begun)

-- a slice's generator, or why there is none: fewer bytes, more, or a last byte above 1
unfoldable pub read_generator : List ℕ → Result Generator FrameError
read_generator s =
    cond (nat_lt (length s) 9) (Err FrameError.Incomplete)
    (cond (nat_lt 9 (length s)) (Err FrameError.WrongLength)
    (cond (byte_below s 8 2) (Ok (generator_at s))
    (Err FrameError.OutOfRange)))

-- a call's number and slices at its end
pub record TrialCall : Type 0 where
  pub number : ℕ
  pub generator : List ℕ
  pub output : List ℕ

-- "draws nothing and returns 5 for an output under 106 bytes", and so for each refusal
abbrev pub declined : FrameError → List ℕ → List ℕ → TrialCall
declined e generator output = record { number = frame_error_number e; generator = generator; output = output }

-- "Each call writes the next frame"
abbrev pub made : NextFrame → List ℕ → TrialCall
made t output =
    record {
      number = 0;
      generator = generator_bytes t.generator;
      output = telemetry_frame t.telemetry ++ drop 106 output;
    }

abbrev pub answered : Result Generator FrameError → List ℕ → List ℕ → TrialCall
answered (Err e) generator output = declined e generator output
answered (Ok g) generator output = cond (nat_lt (length output) 106) (declined FrameError.NoRoom generator output) (made (next_frame g) output)

unfoldable pub trial_call : List ℕ → List ℕ → TrialCall
trial_call generator output = answered (read_generator generator) generator output

-- ---- frames in a row

-- a generator before its first frame
abbrev pub first_of : ℕ → Generator
first_of seed = record { x = seed; now_ms = 0; begun = false }

-- the generator after n frames, and their bytes
unfoldable pub onward : ℕ → Generator → Generator
onward zero g = g
onward (suc n) g = (next_frame (onward n g)).generator

unfoldable pub frames_of : ℕ → Generator → List ℕ
frames_of zero g = []
frames_of (suc n) g = frames_of n g ++ telemetry_frame (next_frame (onward n g)).telemetry

-- so many of `count` frames have room in a block
unfoldable pub room_for : ℕ → List ℕ → ℕ
room_for count block = min count (length block / 106)
