-- The laws of the frames of kinds 3 and 13 that are answered one after the other. Assumes nothing.
use Rattle.types.specs.declared.Telemetry.{Telemetry}
use Rattle.wire.proofs.Head.{room}
use Rattle.wire.specs.declared.FrameError.{FrameError}
use Rattle.std.specs.Prelude.{Result, Ok, Err}
use Prim.Native.Nat.{ℕ, zero, suc, ◌+◌, ◌-◌, ◌≤◌, ◌<◌, zero-le, min}
use native.Mathlib.Nat.{min-eq_left, min-eq_right, le_of_lt}
use native.Mathlib.Omega.{arith}
use mathlib.Core.Bool.{Bool, true, false, cond}
use mathlib.Core.List.{List, [], ◌++◌, append_assoc, append-nil}
use mathlib.Core.Path.{◌≡◌, refl, sym, ◌∙◌, ap}
use lib.Dec.{eqb, ltb}
use lib.ListN.{length, take, drop, length-drop, length-append, take-append-drop}
use lib.Seq.{length-take-le, take_all, take_at, drop_at, drop-drop, drop-length}
use borrow.Author.Tests.{ltb-true, ltb-false, le-ltb, eqb-true, eq-eqb, ne_eqb}
use borrow.Rule.Slice.PartMut.{mid_of, put_mid}
use Rattle.supervisor.specs.declared.Supervisor.{Supervisor}
use Rattle.wire.specs.Frame.{whole_frame, frame_written, frame_error_number}
use Rattle.frame_telemetry.specs.TelemetryFrame.{read_telemetry}
use Rattle.frame_areas.specs.AreasFrame.{areas_fault}
use Rattle.frame_areas.proofs.Most.{areas_most}
use Rattle.frame_decision.proofs.Size.{size as decision_size}
use Rattle.frame_refusal.specs.RefusalFrame.{refusal_frame}
use Rattle.frame_refusal.proofs.Size.{size as refusal_size}
use Rattle.flight.specs.declared.Flight.{Flight}
use Rattle.flight.specs.Flight.{step_flight}
use Rattle.stream.specs.declared.Due.{Due}
use Rattle.stream.specs.declared.FramesAnswer.{FramesAnswer}
use Rattle.stream.specs.declared.FrameAnswer.{FrameAnswer}
use Rattle.stream.specs.Stream.{Progress, Flown, in_flight, next_frame, next_of, answer_next, answer_frames, progress, frames_answer, put_count, takes_areas, after_areas, after_telemetry, answer_frame, frame_answer}

-- the part of a slice from a place on, as the borrow checker gives it
rest : (s : List ℕ) (i : ℕ) → take (length s - i) (drop i s) ≡ drop i s
rest s i = take_all (length s - i) (drop i s) (simp length-drop (omega arith))

-- where a frame is answered next, there is room for its answer
room_for : (due : Due) (input : List ℕ) (room n : ℕ) → n ≡ next_frame due input room → 0 < n → 95 ≤ room
unfolding next_frame
room_for due input room n e h = by (in_flight due) e
  where
    within : (b : Bool) → ltb room 95 ≡ b → n ≡ cond b 0 (whole_frame input) → 95 ≤ room
    within true t q = absurd (omega arith)
    within false t q = ltb-false _ _ t

    by : (b : Bool) → n ≡ cond b (cond (ltb room 95) 0 (whole_frame input)) 0 → 95 ≤ room
    by true q = within (ltb room 95) refl q
    by false q = absurd (omega arith)

-- the next frame, from what the code knows
pub next_of_lem : (p : FramesAnswer) (input out held : List ℕ) (n : ℕ)
    → p.put ≤ length out
    → n ≡ next_frame p.due (take (length input - p.taken) (drop p.taken input)) (length out - p.put)
    → n ≡ next_of input (length out) (progress p out held)
unfolding next_of
next_of_lem p input out held n h e = rw (length-take-le p.put out h, ← rest input p.taken) e

-- where no frame is answered next, nothing more happens
pub halts : (turns : ℕ) (f : Flight) (input : List ℕ) (size : ℕ) (p : Progress) (n : ℕ) → n ≡ next_of input size p → n ≤ 0 → answer_frames turns f input size p ≡ p
unfolding answer_frames
halts zero f input size p n e h = refl
halts (suc turns) f input size p n e h = rw (eq-eqb (next_of input size p) 0 (omega arith))

-- where one is, it is answered first
goes : (turns : ℕ) (f : Flight) (input : List ℕ) (size : ℕ) (p : Progress) (n : ℕ)
    → n ≡ next_of input size p → 0 < n → 0 < turns
    → answer_frames turns f input size p ≡ answer_frames (turns - 1) f input size (answer_next f input n p)
unfolding answer_frames
goes zero f input size p n e h t = absurd (omega arith)
goes (suc turns) f input size p n e h t =
    let less : suc turns - 1 ≡ turns = omega arith in
    rw (less, ← e, ne_eqb n 0 (λ z. omega arith))

-- after the last turn nothing more happens
pub spent : (turns : ℕ) (f : Flight) (input : List ℕ) (size : ℕ) (p : Progress) → turns ≤ 0 → answer_frames turns f input size p ≡ p
unfolding answer_frames
spent zero f input size p h = refl
spent (suc turns) f input size p h = absurd (omega arith)

-- where a frame is answered next, the output has room for its answer
pub room_next : (p : FramesAnswer) (input out held : List ℕ) (n : ℕ) → p.put ≤ length out → n ≡ next_of input (length out) (progress p out held) → 0 < n → p.put + 95 ≤ length out
unfolding next_of
room_next p input out held n h e z =
    let room : 95 ≤ length out - length (take p.put out) = room_for p.due (drop p.taken input) (length out - length (take p.put out)) n e z in
    omega (arith, rw (length-take-le p.put out h) at room)

-- an answer has at most 95 bytes, and the areas held at most 1045
abbrev Sized : Flown → Type 0
Sized a = (length a.bytes ≤ 95) × (length a.areas ≤ 1045)

sized_telemetry : (read : Result Telemetry FrameError) (f : Flight) (s : Supervisor) (areas : List ℕ) → length areas ≤ 1045 → Sized (after_telemetry read f s areas)
sized_telemetry (Err d) f s areas h = (omega (arith, refusal_size (frame_error_number d)), h)
sized_telemetry (Ok t) f s areas h = (omega (arith, decision_size (step_flight f areas s t).decision), h)

sized_areas : (s : Supervisor) (areas frame : List ℕ) → length areas ≤ 1045 → Sized (after_areas s areas frame)
unfolding after_areas
sized_areas s areas frame h = by (eqb (areas_fault frame) 0) refl
  where
    by : (b : Bool) → eqb (areas_fault frame) 0 ≡ b
        → Sized (cond b (record { due = Due.AfterAreas; supervisor = s; areas = frame; bytes = [] }) (record { due = Due.Nothing; supervisor = s; areas = areas; bytes = refusal_frame (areas_fault frame) }))
    by true e = (zero-le, areas_most frame (eqb-true _ _ e))
    by false e = (omega (arith, refusal_size (areas_fault frame)), h)

sized : (f : Flight) (due : Due) (s : Supervisor) (areas frame : List ℕ) → length areas ≤ 1045 → Sized (answer_frame f due s areas frame)
unfolding answer_frame
sized f due s areas frame h = by (takes_areas due frame)
  where
    by : (b : Bool) → Sized (cond b (after_areas s areas frame) (after_telemetry (read_telemetry frame) f s areas))
    by true = sized_areas s areas frame h
    by false = sized_telemetry (read_telemetry frame) f s areas h

-- a step keeps the areas that are held
pub kept : (read : Result Telemetry FrameError) (f : Flight) (s : Supervisor) (areas : ℕ) (held out : List ℕ) (a : FrameAnswer) → areas ≤ 1045 → 1045 ≤ length held
    → a ≡ frame_answer (after_telemetry read f s (take areas held)) out → take a.areas held ≡ (after_telemetry read f s (take areas held)).areas
kept (Err d) f s areas held out a h k e = let within : areas ≤ length held = omega arith in rw (e, length-take-le areas held within)
kept (Ok t) f s areas held out a h k e = let within : areas ≤ length held = omega arith in rw (e, length-take-le areas held within)

-- bytes that are put into the part of a slice from a place on, where there is room
module _ (out bytes : List ℕ) (put : ℕ) (fits : put + length bytes ≤ length out) where
  room_in_part : length bytes ≤ length (drop put out)
  room_in_part = simp length-drop (omega arith)

  counted : put_count bytes (mid_of put (length out - put) out) ≡ length bytes
  unfolding put_count
  counted = rw (rest out put, le-ltb (length (drop put out)) (length bytes) room_in_part)

  into : put_mid put (length out - put) out (frame_written bytes (mid_of put (length out - put) out)) ≡ take put out ++ bytes ++ drop (put + length bytes) out
  unfolding frame_written
  into = rw (rest out put, le-ltb (length (drop put out)) (length bytes) room_in_part, ← length-drop put out, drop-length (drop put out), append-nil, drop-drop, append_assoc)

  size : length (take put out ++ bytes) ≡ put + length bytes
  size = simp length-append (rw (length-take-le put out (omega arith)))

  taken_then : take (put + length bytes) (put_mid put (length out - put) out (frame_written bytes (mid_of put (length out - put) out))) ≡ take put out ++ bytes
  taken_then = rw (into, take_at (take put out ++ bytes) (drop (put + length bytes) out) (put + length bytes) size)

  left_then : drop (put + length bytes) (put_mid put (length out - put) out (frame_written bytes (mid_of put (length out - put) out))) ≡ drop (put + length bytes) out
  left_then = rw (into, drop_at (take put out ++ bytes) (drop (put + length bytes) out) (put + length bytes) size)

-- what the code has at the end, from how far it is
pub ends : (p : FramesAnswer) (out held out₀ : List ℕ) (q : Progress) {size : ℕ}
    → progress p out held ≡ q → p.put ≤ length out → length out ≡ length out₀ → drop p.put out ≡ drop p.put out₀ → p.areas ≤ 1045 → length held ≡ 1045 → p.taken ≤ size
    → (p ≡ frames_answer q) × ((out ≡ frame_written q.written out₀) × ((take p.areas held ≡ q.areas) × ((p.taken ≤ size) × (p.put ≤ length out₀))))
unfolding frame_written
ends p out held out₀ q e h l d a k t =
    let room : p.areas ≤ length held = omega arith in
    rw (← e, length-take-le p.areas held room, length-take-le p.put out h, le-ltb (length out₀) p.put (omega arith), ← d, take-append-drop) (refl, (refl, (refl, (t, omega arith))))

-- bytes beyond a slice are none
pub take-most : (n : ℕ) (held : List ℕ) → length held ≡ 1045 → take (min n 1045) held ≡ take n held
take-most n held l = by (ltb n 1045) refl
  where
    by : (b : Bool) → ltb n 1045 ≡ b → take (min n 1045) held ≡ take n held
    by true e = rw (min-eq_left (le_of_lt (ltb-true n 1045 e)))
    by false e = rw (min-eq_right (ltb-false n 1045 e), take_all 1045 held (omega arith), take_all n held (omega (arith, ltb-false n 1045 e)))

-- a number of bytes of the rest of the input, behind a place
pub in_rest : (input : List ℕ) (i n : ℕ) → i ≤ length input → n ≤ length (take (length input - i) (drop i input)) → i + n ≤ length input
in_rest input i n h k = omega (arith, rw (rest input i, length-drop i input) at k)

-- what the frame of n bytes behind those taken is answered with, as the code reads it
abbrev flown_of : Flight → FramesAnswer → ℕ → List ℕ → List ℕ → Flown
flown_of f p n input held = answer_frame f p.due p.supervisor (take p.areas held) (take (p.taken + n - p.taken) (drop p.taken input))

-- one frame answered: what the code has then, from what it had
module _ (f : Flight) (p : FramesAnswer) (n : ℕ) (input out held : List ℕ) (a : FrameAnswer) (part after : List ℕ)
    (room : p.put + 95 ≤ length out) (few : p.areas ≤ 1045) (space : 1045 ≤ length held)
    (e : a ≡ frame_answer (flown_of f p n input held) (mid_of p.put (length out - p.put) out))
    (q : part ≡ frame_written (flown_of f p n input held).bytes (mid_of p.put (length out - p.put) out))
    (k : take a.areas after ≡ (flown_of f p n input held).areas) where
  both : Sized (flown_of f p n input held)
  both =
      let within : p.areas ≤ length held = omega arith in
      sized f p.due p.supervisor (take p.areas held) _ (rw (length-take-le p.areas held within) few)

  fits : p.put + length (flown_of f p n input held).bytes ≤ length out
  fits = omega (arith, both.0)

  put_all : a.put ≡ length (flown_of f p n input held).bytes
  put_all = ap (λ (x : FrameAnswer). x.put) e ∙ counted out (flown_of f p n input held).bytes p.put fits

  step_put : p.put + a.put ≤ length out
  step_put = rw put_all fits

  step_areas : a.areas ≤ 1045
  step_areas = rw e both.1

  step_left : drop (p.put + a.put) (put_mid p.put (length out - p.put) out part) ≡ drop (p.put + a.put) out
  step_left = rw (put_all, q) (left_then out (flown_of f p n input held).bytes p.put fits)

  written_then : take (p.put + a.put) (put_mid p.put (length out - p.put) out part) ≡ take p.put out ++ (flown_of f p n input held).bytes
  written_then = rw (put_all, q) (taken_then out (flown_of f p n input held).bytes p.put fits)

  step_progress : progress (record { due = a.due; supervisor = a.supervisor; areas = a.areas; taken = p.taken + n; put = p.put + a.put }) (put_mid p.put (length out - p.put) out part) after ≡ answer_next f input n (progress p out held)
  unfolding answer_next
  step_progress =
      let same : p.taken + n - p.taken ≡ n = omega arith in
      rw (written_then, k, e, same)

  -- all of that
  pub stepped :
      (progress (record { due = a.due; supervisor = a.supervisor; areas = a.areas; taken = p.taken + n; put = p.put + a.put }) (put_mid p.put (length out - p.put) out part) after ≡ answer_next f input n (progress p out held))
      × ((drop (p.put + a.put) (put_mid p.put (length out - p.put) out part) ≡ drop (p.put + a.put) out) × ((p.put + a.put ≤ length out) × (a.areas ≤ 1045)))
  stepped = (step_progress, (step_left, (step_put, step_areas)))

-- what two lists share from a place on, they share from a later place on
pub drop-later : (i j : ℕ) (s t : List ℕ) → i ≤ j → drop i s ≡ drop i t → drop j s ≡ drop j t
drop-later i j s t h e =
    let at : i + (j - i) ≡ j = omega arith in
    rw (← at, ← drop-drop (j - i) i s, ← drop-drop (j - i) i t, e)

-- one turn more
pub again : (turns : ℕ) (f : Flight) (input : List ℕ) (size : ℕ) (p q : Progress) (n : ℕ) (all : Progress)
    → q ≡ answer_next f input n p → n ≡ next_of input size p → 0 < n → 0 < turns
    → answer_frames turns f input size p ≡ all → answer_frames (turns - 1) f input size q ≡ all
again turns f input size p q n all a e h t d = rw a (sym (goes turns f input size p n e h t) ∙ d)
