-- Document 01: "Program `decide` reads a kind 1, a kind 2, then kind 3 frames from standard input and writes one kind 4 frame a step. Where the
-- input ends at a frame boundary, even before the first frame, it ends and writes no more; at the first refusal it writes one kind 255 frame
-- and ends." Document 02, L5: "Fences come as kind 8 too": `read_fence` takes either. Document 02, L3, of keep-out areas, kind 13: "`decide` takes at most
-- one before each kind 3, checked when read, which holds until the next one; before the first no area is held." Assumes nothing.
use Rattle.std.specs.Prelude.{ℕ, zero, suc, ◌+◌, ◌-◌, Bool, true, false, ◌||◌, cond, List, [], ◌++◌, eqb, ltb, length, take, drop, Some, None, Result, Ok, Err}
use Rattle.config.specs.declared.Config.{Config}
use Rattle.supervisor.specs.declared.Supervisor.{Supervisor}
use Rattle.supervisor.specs.Step.{fresh_supervisor}
use Rattle.wire.specs.Fields.{u16_at}
use Rattle.wire.specs.declared.FrameError.{FrameError}
use Rattle.wire.specs.Frame.{frame_error_number, whole_frame}
use Rattle.frame_config.specs.ConfigFrame.{read_config}
use Rattle.frame_fence.specs.FenceFrame.{read_fence}
use Rattle.frame_areas.specs.AreasFrame.{areas_fault}
use Rattle.types.specs.declared.Telemetry.{Telemetry}
use Rattle.frame_telemetry.specs.TelemetryFrame.{read_telemetry}
use Rattle.frame_decision.specs.DecisionFrame.{decision_frame}
use Rattle.frame_refusal.specs.RefusalFrame.{refusal_frame}
use Rattle.flight.specs.declared.Flight.{Flight}
use Rattle.flight.specs.declared.FlightError.{FlightError}
use Rattle.flight.specs.Flight.{flight_error_number, blank_flight, after_fence, step_flight}
use Rattle.stream.specs.declared.Due.{Due}
use Rattle.stream.specs.declared.Session.{Session}
use Rattle.stream.specs.declared.Answer.{Answer}
use Rattle.stream.specs.declared.Turn.{Turn}
use Rattle.stream.specs.declared.FrameAnswer.{FrameAnswer}
use Rattle.stream.specs.declared.FramesAnswer.{FramesAnswer}

-- up to the first kind 3: "before the first no area is held", so no byte of one is
abbrev pub session : Due → Flight → Supervisor → Session
session due f s = record { due = due; flight = f; supervisor = s; areas = 0; refused = None }

-- whether a kind 1 or 2 is due, and whether a kind 3 is, with or without a kind 13 before it
abbrev pub in_setup : Due → Bool
in_setup Due.Config = true
in_setup Due.Fence = true
in_setup Due.Telemetry = false
in_setup Due.AfterAreas = false
in_setup Due.Nothing = false

abbrev pub in_flight : Due → Bool
in_flight Due.Config = false
in_flight Due.Fence = false
in_flight Due.Telemetry = true
in_flight Due.AfterAreas = true
in_flight Due.Nothing = false

-- how many bytes are put into a slice: all, or none where there is no room
unfoldable pub put_count : List ℕ → List ℕ → ℕ
put_count bytes out = cond (ltb (length out) (length bytes)) 0 (length bytes)

-- ---- "a kind 1, a kind 2"

-- the session after a frame, and the bytes that are written
pub record Reply : Type 0 where
  pub after : Session
  pub bytes : List ℕ

-- the session after it, and how many of the bytes are put into a slice
abbrev pub answered : Reply → List ℕ → Answer
answered a out = record { session = a.after; put = put_count a.bytes out }

-- the session goes on, and nothing is written
abbrev pub silent : Session → Reply
silent s = record { after = s; bytes = [] }

-- "at the first refusal it writes one kind 255 frame and ends"; the session says which refusal it was
unfoldable pub refusal : FlightError → Reply
refusal e =
    record {
      after = record { due = Due.Nothing; flight = blank_flight; supervisor = fresh_supervisor; areas = 0; refused = Some e };
      bytes = refusal_frame (flight_error_number e);
    }

-- a kind 1 is due
unfoldable pub begin : Session
begin = session Due.Config blank_flight fresh_supervisor

-- the configuration is read, and a kind 2 is due
unfoldable pub with_config : Config → Session
with_config cfg =
    let f = blank_flight in
    session Due.Fence (record { cfg = cfg; fence = f.fence; lengths = f.lengths }) fresh_supervisor

abbrev pub after_config : Result Config FrameError → Reply
after_config (Err e) = refusal (FlightError.Frame e)
after_config (Ok cfg) = silent (with_config cfg)

unfoldable pub answer_config : List ℕ → Reply
answer_config frame = after_config (read_config frame)

-- both are accepted, and kind 3 frames are due
abbrev pub flying : Flight → Session
flying f = session Due.Telemetry f fresh_supervisor

abbrev pub after_flight : Result Flight FlightError → Reply
after_flight (Err e) = refusal e
after_flight (Ok f) = silent (flying f)

-- the fence frame, then the fence rules and the configuration rules
unfoldable pub answer_fence : Config → List ℕ → Reply
answer_fence cfg frame = after_flight (after_fence cfg (read_fence frame))

abbrev pub by_due : Due → Session → List ℕ → Reply
by_due Due.Config s frame = answer_config frame
by_due Due.Fence s frame = answer_fence s.flight.cfg frame
by_due Due.Telemetry s frame = silent s
by_due Due.AfterAreas s frame = silent s
by_due Due.Nothing s frame = silent s

-- what a whole frame of kind 1 or 2 is answered with, where one is due
unfoldable pub answer_setup : Session → List ℕ → Reply
answer_setup s frame = by_due s.due s frame

-- the bytes of the frame at the front of the input that is answered: 0, for none, where neither a kind 1 nor a kind 2 is due, and where no whole frame is there
unfoldable pub setup_frame : Due → List ℕ → ℕ
setup_frame due input = cond (in_setup due) (whole_frame input) 0

-- what it is answered with; nothing happens where there is none
unfoldable pub reply_setup : Session → List ℕ → Reply
reply_setup s input =
    let n = setup_frame s.due input in
    cond (eqb n 0) (silent s) (answer_setup s (take n input))

-- the session then, how many bytes of the input were taken, and how many are put into a slice
abbrev pub set_up : Session → List ℕ → List ℕ → Turn
set_up s input out =
    let a = reply_setup s input in
    record { session = a.after; taken = setup_frame s.due input; put = put_count a.bytes out }

-- ---- "then kind 3 frames", with kind 13 frames between them

-- after a frame: what is due, the supervisor, the areas held, as the bytes of their frame, and the bytes that are written
pub record Flown : Type 0 where
  pub due : Due
  pub supervisor : Supervisor
  pub areas : List ℕ
  pub bytes : List ℕ

-- "writes one kind 4 frame a step": the step is taken with the areas held; "at the first refusal it writes one kind 255 frame and ends"
abbrev pub after_telemetry : Result Telemetry FrameError → Flight → Supervisor → List ℕ → Flown
after_telemetry (Err e) f s areas = record { due = Due.Nothing; supervisor = s; areas = areas; bytes = refusal_frame (frame_error_number e) }
after_telemetry (Ok t) f s areas =
    record {
      due = Due.Telemetry;
      supervisor = (step_flight f areas s t).supervisor;
      areas = areas;
      bytes = decision_frame (step_flight f areas s t).decision;
    }

-- "checked when read, which holds until the next one": an accepted kind 13 is what is held from then on, and nothing is written
unfoldable pub after_areas : Supervisor → List ℕ → List ℕ → Flown
after_areas s areas frame =
    let n = areas_fault frame in
    cond (eqb n 0)
    (record { due = Due.AfterAreas; supervisor = s; areas = frame; bytes = [] })
    (record { due = Due.Nothing; supervisor = s; areas = areas; bytes = refusal_frame n })

-- "at most one before each kind 3": whether this is a kind 13 that is taken; after one a kind 3 alone is due
abbrev pub takes_areas : Due → List ℕ → Bool
takes_areas Due.Config frame = false
takes_areas Due.Fence frame = false
takes_areas Due.Telemetry frame = eqb (u16_at frame 2) 13
takes_areas Due.AfterAreas frame = false
takes_areas Due.Nothing frame = false

-- what a whole frame is answered with
unfoldable pub answer_frame : Flight → Due → Supervisor → List ℕ → List ℕ → Flown
answer_frame f due s areas frame = cond (takes_areas due frame) (after_areas s areas frame) (after_telemetry (read_telemetry frame) f s areas)

-- what is due then, the supervisor, how many bytes of areas are held, and how many of the bytes written are put into a slice
abbrev pub frame_answer : Flown → List ℕ → FrameAnswer
frame_answer a out = record { due = a.due; supervisor = a.supervisor; areas = length a.areas; put = put_count a.bytes out }

-- ---- these frames, one after the other

-- what is due, the supervisor, the areas held, how many bytes of the input were taken, and the bytes written for them
pub record Progress : Type 0 where
  pub due : Due
  pub supervisor : Supervisor
  pub areas : List ℕ
  pub taken : ℕ
  pub written : List ℕ

-- before the first of them
abbrev pub nothing_taken : Due → Supervisor → List ℕ → Progress
nothing_taken due s areas = record { due = due; supervisor = s; areas = areas; taken = 0; written = [] }

-- the bytes of the frame at the front of the input that is answered: 0, for none, where no kind 3 is due, where there is no room for one more answer, of 95
-- bytes at most, and where no whole frame is there
unfoldable pub next_frame : Due → List ℕ → ℕ → ℕ
next_frame due input room = cond (in_flight due) (cond (ltb room 95) 0 (whole_frame input)) 0

-- the same behind the frames that were taken, where so many bytes can be written in all
unfoldable pub next_of : List ℕ → ℕ → Progress → ℕ
next_of input size p = next_frame p.due (drop p.taken input) (size - length p.written)

-- that frame, of n bytes, is answered: its bytes follow the ones before
unfoldable pub answer_next : Flight → List ℕ → ℕ → Progress → Progress
answer_next f input n p =
    let a = answer_frame f p.due p.supervisor p.areas (take n (drop p.taken input)) in
    record { due = a.due; supervisor = a.supervisor; areas = a.areas; taken = p.taken + n; written = p.written ++ a.bytes }

-- "then kind 3 frames": frames from the front of the input, as long as there is a next one, and no more than so many
unfoldable pub answer_frames : ℕ → Flight → List ℕ → ℕ → Progress → Progress
answer_frames zero f input size p = p
answer_frames (suc turns) f input size p =
    let n = next_of input size p in
    cond (eqb n 0) p (answer_frames turns f input size (answer_next f input n p))

-- every frame that there is: a frame has at least two bytes, so as many turns as there are bytes are enough (proofs/Enough.antt)
unfoldable pub fly_frames : Flight → Due → Supervisor → List ℕ → List ℕ → ℕ → Progress
fly_frames f due s areas input size = answer_frames (length input) f input size (nothing_taken due s areas)

-- the same from a session, whose areas held are the first bytes of a slice
abbrev pub fly_session : Session → List ℕ → List ℕ → ℕ → Progress
fly_session s held input size = fly_frames s.flight s.due s.supervisor (take s.areas held) input size

-- what is due then, the supervisor, how many bytes of areas are held, how many bytes were taken, and how many were written
abbrev pub frames_answer : Progress → FramesAnswer
frames_answer p = record { due = p.due; supervisor = p.supervisor; areas = length p.areas; taken = p.taken; put = length p.written }

-- how far it is, where the bytes written so far are the first of the output, and the areas held the first of their slice
abbrev pub progress : FramesAnswer → List ℕ → List ℕ → Progress
progress p out held = record { due = p.due; supervisor = p.supervisor; areas = take p.areas held; taken = p.taken; written = take p.put out }

-- ---- the end

-- "Where the input ends at a frame boundary, even before the first frame, it ends and writes no more"; after bytes that are no whole frame, where one is
-- due, the frame is short, 1
unfoldable pub end_bytes : Due → ℕ → List ℕ
end_bytes due rest = cond (eqb rest 0) [] (cond (in_setup due || in_flight due) (refusal_frame 1) [])
