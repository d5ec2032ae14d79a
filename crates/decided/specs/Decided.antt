-- Document 01: "Program `decide` reads a kind 1, a kind 2, then kind 3 frames from standard input and writes one kind 4 frame a step. Where the
-- input ends at a frame boundary, even before the first frame, it ends and writes no more; at the first refusal it writes one kind 255 frame
-- and ends." Document 02, L3, of kind 13: "`decide` takes at most one before each kind 3, checked when read, which holds until the next one; before the
-- first no area is held." From the whole input to the whole output. Assumes nothing.
use Rattle.std.specs.Prelude.{ℕ, zero, suc, ◌||◌, cond, List, [], ◌++◌, eqb, length, take, drop, Option}
use Rattle.types.specs.declared.Decision.{Decision}
use Rattle.supervisor.specs.declared.Supervisor.{Supervisor}
use Rattle.wire.specs.Frame.{whole_frame}
use Rattle.frame_decision.specs.DecisionFrame.{decision_frame}
use Rattle.frame_refusal.specs.RefusalFrame.{refusal_frame}
use Rattle.flight.specs.declared.Flight.{Flight}
use Rattle.flight.specs.declared.FlightError.{FlightError}
use Rattle.stream.specs.declared.Due.{Due}
use Rattle.stream.specs.declared.Session.{Session}
use Rattle.stream.specs.Stream.{Reply, Flown, begin, in_setup, in_flight, answer_config, answer_fence, answer_frame, end_bytes}

-- between two frames: what is due, the flight, its supervisor, the areas held, as the bytes of their frame, and why a kind 1 or 2 was refused, if one was
pub record State : Type 0 where
  pub due : Due
  pub flight : Flight
  pub supervisor : Supervisor
  pub areas : List ℕ
  pub refused : Option FlightError

-- what a frame is answered with: the state after it, and the bytes written
pub record Answer : Type 0 where
  pub after : State
  pub bytes : List ℕ

-- "before the first no area is held"
abbrev pub no_areas : Session → State
no_areas s = record { due = s.due; flight = s.flight; supervisor = s.supervisor; areas = []; refused = s.refused }

-- before the first frame: a kind 1 is due
unfoldable pub begun : State
begun = no_areas begin

abbrev pub after_setup : Reply → Answer
after_setup a = record { after = no_areas a.after; bytes = a.bytes }

abbrev pub after_flown : State → Flown → Answer
after_flown s a = record { after = record { due = a.due; flight = s.flight; supervisor = a.supervisor; areas = a.areas; refused = s.refused }; bytes = a.bytes }

-- "a kind 1, a kind 2, then kind 3 frames", with "at most one" kind 13 "before each kind 3": a whole frame's answer, by what is due; after a refusal nothing is
abbrev pub answer_due : Due → State → List ℕ → Answer
answer_due Due.Config s frame = after_setup (answer_config frame)
answer_due Due.Fence s frame = after_setup (answer_fence s.flight.cfg frame)
answer_due Due.Telemetry s frame = after_flown s (answer_frame s.flight Due.Telemetry s.supervisor s.areas frame)
answer_due Due.AfterAreas s frame = after_flown s (answer_frame s.flight Due.AfterAreas s.supervisor s.areas frame)
answer_due Due.Nothing s frame = record { after = s; bytes = [] }

unfoldable pub answer : State → List ℕ → Answer
answer s frame = answer_due s.due s frame

-- the bytes of the frame at the front of the input: 0, for none, where no frame is due, and where no whole frame is there
unfoldable pub front_frame : Due → List ℕ → ℕ
front_frame due input = cond (in_setup due || in_flight due) (whole_frame input) 0

-- what is written from a state on: frames are cut off the input one after the other and answered, no more than so many; then the input ends, at a frame
-- boundary or inside a frame
unfoldable pub written_in : ℕ → State → List ℕ → List ℕ
written_in zero s input = end_bytes s.due (length input)
written_in (suc turns) s input =
    let n = front_frame s.due input in
    let a = answer s (take n input) in
    cond (eqb n 0) (end_bytes s.due (length input)) (a.bytes ++ written_in turns a.after (drop n input))

-- every frame that there is: a frame has at least two bytes, so as many turns as there are bytes are enough (proofs/Whole.antt: `written_end`, `written_frame`)
unfoldable pub written_from : State → List ℕ → List ℕ
written_from s input = written_in (length input) s input

-- the whole output of the program, for its whole input
unfoldable pub decided : List ℕ → List ℕ
decided input = written_from begun input

-- "one kind 4 frame a step"; "at the first refusal it writes one kind 255 frame and ends": what every output is made of (proofs/Output.antt: `output_is`)
pub data Output : List ℕ → Type 0 where
  ended : Output []
  refused : (n : ℕ) → Output (refusal_frame n)
  stepped : (d : Decision) {rest : List ℕ} → Output rest → Output (decision_frame d ++ rest)
