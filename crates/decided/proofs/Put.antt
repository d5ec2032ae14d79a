-- What the functions put into the output block, by their contracts, is what a turn and the end write: the first `put` bytes of the block afterwards, where it has room for
-- an answer. And what is left after a turn that takes nothing is shorter than a frame, so that the input block always has room for more. Assumes nothing.
use Rattle.flight.specs.declared.FlightError.{FlightError}
use Rattle.types.specs.declared.Telemetry.{Telemetry}
use Rattle.wire.proofs.Head.{room}
use Rattle.wire.specs.declared.FrameError.{FrameError}
use Rattle.std.specs.Prelude.{Result, Ok, Err}
use Prim.Native.Nat.{ℕ, zero, suc, ◌+◌, ◌-◌, ◌≤◌, ◌<◌, zero-le}
use native.Mathlib.Omega.{arith}
use mathlib.Core.Bool.{Bool, true, false, ◌||◌, cond}
use mathlib.Core.List.{List, []}
use mathlib.Core.Path.{◌≡◌, refl}
use lib.Dec.{eqb, ltb}
use lib.ListN.{length, take, drop, length-append}
use lib.Seq.{take_at}
use borrow.Author.Tests.{eqb-false, ltb-true, ltb-false, le-ltb}
use Rattle.config.specs.declared.Config.{Config}
use Rattle.supervisor.specs.declared.Supervisor.{Supervisor}
use Rattle.wire.specs.Fields.{Bytes, u16_at}
use Rattle.wire.specs.Frame.{whole_frame, frame_written, frame_error_number}
use Rattle.wire.proofs.Number.{number_lt}
use Rattle.frame_config.specs.ConfigFrame.{read_config}
use Rattle.frame_fence.specs.FenceFrame.{read_fence}
use Rattle.frame_areas.specs.AreasFrame.{areas_fault}
use Rattle.frame_telemetry.specs.TelemetryFrame.{read_telemetry}
use Rattle.frame_decision.proofs.Size.{size as decision_size}
use Rattle.frame_refusal.specs.RefusalFrame.{refusal_frame}
use Rattle.frame_refusal.proofs.Size.{size as refusal_size}
use Rattle.flight.specs.declared.Flight.{Flight}
use Rattle.flight.specs.Flight.{step_flight, flight_error_number, after_fence}
use Rattle.stream.specs.declared.Due.{Due}
use Rattle.stream.specs.Stream.{Progress, Flown, put_count, refusal, after_config, after_flight, answer_config, answer_fence, in_setup, in_flight, setup_frame, takes_areas, after_areas, after_telemetry, answer_frame, nothing_taken, next_frame, next_of, answer_next, answer_frames, fly_frames, end_bytes}
use Rattle.decided.specs.Decided.{State, Answer, answer_due, answer, front_frame}
use Rattle.decided.specs.Program.{one_frame, flown, turn}
use Rattle.decided.proofs.Whole.{positive}
use Rattle.decided.proofs.Turns.{turn_still}

-- ---- an answer has at most 95 bytes

config_size : (frame : List ℕ) → length (answer_config frame).bytes ≤ 95
unfolding answer_config refusal
config_size frame = at (read_config frame)
  where
    at : (r : Result Config FrameError) → length (after_config r).bytes ≤ 95
    at (Err d) = omega (arith, refusal_size (frame_error_number d))
    at (Ok cfg) = zero-le

fence_size : (cfg : Config) (frame : List ℕ) → length (answer_fence cfg frame).bytes ≤ 95
unfolding answer_fence refusal
fence_size cfg frame =
    at (after_fence cfg (read_fence frame))
  where
    at : (r : Result Flight FlightError) → length (after_flight r).bytes ≤ 95
    at (Ok f) = zero-le
    at (Err e) = omega (arith, refusal_size (flight_error_number e))

telemetry_size_lem : (read : Result Telemetry FrameError) (f : Flight) (s : Supervisor) (areas : List ℕ) → length (after_telemetry read f s areas).bytes ≤ 95
telemetry_size_lem (Err d) f s areas = omega (arith, refusal_size (frame_error_number d))
telemetry_size_lem (Ok t) f s areas = omega (arith, decision_size (step_flight f areas s t).decision)

areas_size : (s : Supervisor) (areas frame : List ℕ) → length (after_areas s areas frame).bytes ≤ 95
unfolding after_areas
areas_size s areas frame = at (areas_fault frame) (eqb (areas_fault frame) 0)
  where
    at : (n : ℕ) (b : Bool)
        → length (cond {A = Flown} b (record { due = Due.AfterAreas; supervisor = s; areas = frame; bytes = [] }) (record { due = Due.Nothing; supervisor = s; areas = areas; bytes = refusal_frame n })).bytes ≤ 95
    at n true = zero-le
    at n false = omega (arith, refusal_size n)

frame_size : (f : Flight) (due : Due) (s : Supervisor) (areas frame : List ℕ) → length (answer_frame f due s areas frame).bytes ≤ 95
unfolding answer_frame
frame_size f due s areas frame = at (takes_areas due frame)
  where
    at : (b : Bool) → length (cond b (after_areas s areas frame) (after_telemetry (read_telemetry frame) f s areas)).bytes ≤ 95
    at true = areas_size s areas frame
    at false = telemetry_size_lem (read_telemetry frame) f s areas

answer_size : (due : Due) (s : State) (frame : List ℕ) → length (answer_due due s frame).bytes ≤ 95
answer_size Due.Config s frame = config_size frame
answer_size Due.Fence s frame = fence_size s.flight.cfg frame
answer_size Due.Telemetry s frame = frame_size s.flight Due.Telemetry s.supervisor s.areas frame
answer_size Due.AfterAreas s frame = frame_size s.flight Due.AfterAreas s.supervisor s.areas frame
answer_size Due.Nothing s frame = zero-le

-- ---- a turn writes no more than the block has room for

one_size : (s : State) (input : List ℕ) → length (one_frame s input).bytes ≤ 95
unfolding one_frame answer
one_size s input = at (setup_frame s.due input) (eqb (setup_frame s.due input) 0)
  where
    at : (n : ℕ) (b : Bool) → length (cond {A = Answer} b (record { after = s; bytes = [] }) (answer_due s.due s (take n input))).bytes ≤ 95
    at n true = zero-le
    at n false = answer_size s.due s (take n input)

room_for : (due : Due) (input : List ℕ) (room : ℕ) → 0 < next_frame due input room → 95 ≤ room
unfolding next_frame
room_for due input room h = by (in_flight due) h
  where
    within : (b : Bool) → ltb room 95 ≡ b → 0 < cond b 0 (whole_frame input) → 95 ≤ room
    within true e h = absurd (omega arith)
    within false e h = ltb-false _ _ e

    by : (b : Bool) → 0 < cond b (cond (ltb room 95) 0 (whole_frame input)) 0 → 95 ≤ room
    by true h = within (ltb room 95) refl h
    by false h = absurd (omega arith)

next_size : (f : Flight) (input : List ℕ) (size n : ℕ) (p : Progress) → n ≡ next_of input size p → 0 < n → length (answer_next f input n p).written ≤ size
unfolding next_of answer_next
next_size f input size n p e h =
    let room = room_for p.due (drop p.taken input) (size - length p.written) (omega arith) in
    let a = frame_size f p.due p.supervisor p.areas (take n (drop p.taken input)) in
    simp length-append (omega arith)

frames_size : (turns : ℕ) (f : Flight) (input : List ℕ) (size : ℕ) (p : Progress) → length p.written ≤ size → length (answer_frames turns f input size p).written ≤ size
unfolding answer_frames
frames_size zero f input size p h = h
frames_size (suc turns) f input size p h =
    by (next_of input size p) (eqb (next_of input size p) 0) refl refl (frames_size turns f input size (answer_next f input (next_of input size p) p))
  where
    by : (n : ℕ) (b : Bool) → n ≡ next_of input size p → eqb n 0 ≡ b
        → (length (answer_next f input n p).written ≤ size → length (answer_frames turns f input size (answer_next f input n p)).written ≤ size)
        → length (cond b p (answer_frames turns f input size (answer_next f input n p))).written ≤ size
    by n true e q next = h
    by n false e q next = next (next_size f input size n p e (positive n (eqb-false n 0 q)))

turn_size : (size : ℕ) (s : State) (input : List ℕ) → 95 ≤ size → length (turn size s input).bytes ≤ size
unfolding turn fly_frames
turn_size size s input h = by (in_flight s.due)
  where
    by : (b : Bool) → length (cond b (flown s (fly_frames s.flight s.due s.supervisor s.areas input size)) (one_frame s input)).bytes ≤ size
    by true = frames_size (length input) s.flight input size (nothing_taken s.due s.supervisor s.areas) zero-le
    by false = omega (arith, one_size s input)

-- ---- what is put is what is written

puts : (bytes out : List ℕ) → length bytes ≤ length out → take (put_count bytes out) (frame_written bytes out) ≡ bytes
unfolding put_count frame_written
puts bytes out h = rw (le-ltb (length out) (length bytes) h) (take_at bytes (drop (length bytes) out) (length bytes) refl)

pub turn_puts : (s : State) (input out : List ℕ) → 95 ≤ length out
    → (let bytes = (turn (length out) s input).bytes in take (put_count bytes out) (frame_written bytes out) ≡ bytes)
turn_puts s input out h = puts (turn (length out) s input).bytes out (turn_size (length out) s input h)

end_size : (due : Due) (rest : ℕ) → length (end_bytes due rest) ≤ 6
unfolding end_bytes
end_size due rest = at (eqb rest 0) (in_setup due || in_flight due)
  where
    at : (a b : Bool) → length (cond a [] (cond b (refusal_frame 1) [])) ≤ 6
    at true b = zero-le
    at false true = omega (arith, refusal_size 1)
    at false false = zero-le

pub end_puts : (due : Due) (rest : ℕ) (out : List ℕ) → 95 ≤ length out → take (put_count (end_bytes due rest) out) (frame_written (end_bytes due rest) out) ≡ end_bytes due rest
end_puts due rest out h = puts (end_bytes due rest) out (omega (arith, end_size due rest))

-- ---- what is kept is shorter than the longest frame, of 65,537 bytes

part_short : (s : List ℕ) → Bytes s → whole_frame s ≡ 0 → length s < 65537
unfolding whole_frame u16_at
part_short s b e = at (ltb (length s) 2) (ltb (length s) (2 + u16_at s 0)) refl refl e
  where
    at : (x y : Bool) → ltb (length s) 2 ≡ x → ltb (length s) (2 + u16_at s 0) ≡ y → cond x 0 (cond y 0 (2 + u16_at s 0)) ≡ 0 → length s < 65537
    at true y p q e = omega (arith, ltb-true (length s) 2 p)
    at false true p q e = let n : u16_at s 0 < 65536 = number_lt 2 s 0 b in omega (arith, ltb-true (length s) (2 + u16_at s 0) q)
    at false false p q e = absurd (omega arith)

pub kept_short : (size : ℕ) (s : State) (input : List ℕ) → 95 ≤ size → Bytes input → (in_setup s.due || in_flight s.due) ≡ true → (turn size s input).taken ≡ 0 → length input < 65537
unfolding front_frame
kept_short size s input h b d z = let left = (turn_still size s input h z).0 in part_short input b (rw d at left)
