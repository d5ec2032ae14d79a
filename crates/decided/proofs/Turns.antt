-- A turn of the program: what is written for all of the input is what the turn writes and what is written for the rest; and a turn that takes nothing leaves
-- nothing to answer. Assumes nothing.
use Rattle.wire.proofs.Head.{room}
use Prim.Native.Nat.{ℕ, zero, suc, ◌+◌, ◌-◌, ◌≤◌, ◌<◌}
use native.Mathlib.Omega.{arith}
use mathlib.Core.Bool.{Bool, true, false, ◌||◌, cond}
use mathlib.Core.List.{List, [], ◌++◌, append_assoc}
use mathlib.Core.Path.{◌≡◌, refl, sym, ◌∙◌, ap}
use lib.Dec.{eqb, ltb}
use lib.ListN.{length, take, drop}
use lib.Seq.{drop-drop}
use borrow.Author.Tests.{eqb-true, eqb-false, eq-eqb, ne_eqb, le-ltb}
use Rattle.wire.specs.Frame.{whole_frame}
use Rattle.flight.specs.declared.Flight.{Flight}
use Rattle.stream.specs.declared.Due.{Due}
use Rattle.stream.specs.Stream.{Progress, nothing_taken, in_setup, in_flight, setup_frame, answer_frame, next_frame, next_of, answer_next, answer_frames, fly_frames}
use Rattle.decided.specs.Decided.{State, Answer, after_flown, answer_due, answer, front_frame, written_from}
use Rattle.decided.specs.Program.{Told, Pending, one_frame, flown, turn, next}
use Rattle.decided.proofs.Whole.{positive, frame_within, written_more}

-- ---- one frame of kind 1 or 2

-- where a kind 1 or 2 is due, the frame at the front is the one that is set up with
setup_front : (due : Due) (input : List ℕ) → 0 < setup_frame due input → setup_frame due input ≡ front_frame due input
unfolding setup_frame front_frame
setup_front Due.Config input h = refl
setup_front Due.Fence input h = refl
setup_front Due.Telemetry input h = absurd (omega arith)
setup_front Due.AfterAreas input h = absurd (omega arith)
setup_front Due.Nothing input h = absurd (omega arith)

one_written : (s : State) (input more : List ℕ) → written_from s (input ++ more) ≡ (one_frame s input).bytes ++ written_from (one_frame s input).after (drop (one_frame s input).taken input ++ more)
unfolding one_frame
one_written s input more = by (setup_frame s.due input) (eqb (setup_frame s.due input) 0) refl refl
  where
    by : (n : ℕ) (b : Bool) → n ≡ setup_frame s.due input → eqb n 0 ≡ b
        → (let a = cond {A = Answer} b (record { after = s; bytes = [] }) (answer s (take n input)) in written_from s (input ++ more) ≡ a.bytes ++ written_from a.after (drop n input ++ more))
    by n true e q = rw (eqb-true n 0 q)
    by n false e q = written_more s input more n (e ∙ setup_front s.due input (omega (arith, positive n (eqb-false _ _ q)))) (positive n (eqb-false _ _ q))

-- ---- frames of kinds 3 and 13

-- the frame that is answered next, where there is room, is the one at the front
next_front : (due : Due) (input : List ℕ) (room : ℕ) → 0 < next_frame due input room → next_frame due input room ≡ front_frame due input
unfolding next_frame front_frame
next_front due input room h = at due h
  where
    within : (b : Bool) → 0 < cond b 0 (whole_frame input) → cond b 0 (whole_frame input) ≡ whole_frame input
    within true h = absurd (omega arith)
    within false h = refl

    at : (due : Due) → 0 < next_frame due input room → next_frame due input room ≡ front_frame due input
    at Due.Config h = absurd (omega arith)
    at Due.Fence h = absurd (omega arith)
    at Due.Telemetry h = within (ltb room 95) h
    at Due.AfterAreas h = within (ltb room 95) h
    at Due.Nothing h = absurd (omega arith)

-- and its answer is the one by what is due
next_answer : (due : Due) (s : State) (input frame : List ℕ) (room : ℕ) → 0 < next_frame due input room
    → answer_due due s frame ≡ after_flown s (answer_frame s.flight due s.supervisor s.areas frame)
unfolding next_frame
next_answer Due.Config s input frame room h = absurd (omega arith)
next_answer Due.Fence s input frame room h = absurd (omega arith)
next_answer Due.Telemetry s input frame room h = refl
next_answer Due.AfterAreas s input frame room h = refl
next_answer Due.Nothing s input frame room h = absurd (omega arith)

-- the state of a progress, from the state before it
abbrev state_of : State → Progress → State
state_of s p = record { due = p.due; flight = s.flight; supervisor = p.supervisor; areas = p.areas; refused = s.refused }

-- what is written in all, with more input behind: what was written, and what is for the rest
abbrev in_all : State → List ℕ → List ℕ → Progress → List ℕ
in_all s input more p = p.written ++ written_from (state_of s p) (drop p.taken input ++ more)

next_written : (s : State) (input more : List ℕ) (size n : ℕ) (p : Progress) → n ≡ next_of input size p → 0 < n → in_all s input more p ≡ in_all s input more (answer_next s.flight input n p)
unfolding next_of answer_next answer
next_written s input more size n p e h =
    let rest = drop p.taken input in
    let front : n ≡ front_frame p.due rest = e ∙ next_front p.due rest (size - length p.written) (omega arith) in
    let law = written_more (state_of s p) rest more n front h in
    let same = next_answer p.due (state_of s p) rest (take n rest) (size - length p.written) (omega arith) in
    rw (append_assoc, ← drop-drop n p.taken input) (ap (λ (r : List ℕ). p.written ++ r) (rw same at law))

frames_written : (turns : ℕ) (s : State) (input more : List ℕ) (size : ℕ) (p : Progress) → in_all s input more p ≡ in_all s input more (answer_frames turns s.flight input size p)
unfolding answer_frames
frames_written zero s input more size p = refl
frames_written (suc turns) s input more size p =
    by (next_of input size p) (eqb (next_of input size p) 0) refl refl (frames_written turns s input more size (answer_next s.flight input (next_of input size p) p))
  where
    by : (n : ℕ) (b : Bool) → n ≡ next_of input size p → eqb n 0 ≡ b
        → in_all s input more (answer_next s.flight input n p) ≡ in_all s input more (answer_frames turns s.flight input size (answer_next s.flight input n p))
        → in_all s input more p ≡ in_all s input more (cond b p (answer_frames turns s.flight input size (answer_next s.flight input n p)))
    by n true e q next = refl
    by n false e q next = next_written s input more size n p e (positive n (eqb-false n 0 q)) ∙ next

fly_written : (s : State) (input more : List ℕ) (size : ℕ)
    → (let p = fly_frames s.flight s.due s.supervisor s.areas input size in written_from s (input ++ more) ≡ in_all s input more p)
unfolding fly_frames
fly_written s input more size = frames_written (length input) s input more size (nothing_taken s.due s.supervisor s.areas)

-- ---- a turn

-- what is written for all, is what the turn writes and what is written for the rest with more behind
pub turn_written : (size : ℕ) (s : State) (input more : List ℕ) → written_from s (input ++ more) ≡ (turn size s input).bytes ++ written_from (turn size s input).after (drop (turn size s input).taken input ++ more)
unfolding turn
turn_written size s input more = by (in_flight s.due)
  where
    by : (b : Bool)
        → (let t = cond b (flown s (fly_frames s.flight s.due s.supervisor s.areas input size)) (one_frame s input) in written_from s (input ++ more) ≡ t.bytes ++ written_from t.after (drop t.taken input ++ more))
    by true = fly_written s input more size
    by false = one_written s input more

-- ---- a turn that takes nothing

-- what was taken stays taken
frames_taken : (turns : ℕ) (f : Flight) (input : List ℕ) (size : ℕ) (p : Progress) → p.taken ≤ (answer_frames turns f input size p).taken
unfolding answer_frames answer_next
frames_taken zero f input size p = omega arith
frames_taken (suc turns) f input size p =
    let n = next_of input size p in
    by (eqb n 0) (frames_taken turns f input size (answer_next f input n p))
  where
    by : (b : Bool) → p.taken + next_of input size p ≤ (answer_frames turns f input size (answer_next f input (next_of input size p) p)).taken
        → p.taken ≤ (cond b p (answer_frames turns f input size (answer_next f input (next_of input size p) p))).taken
    by true next = omega arith
    by false next = omega arith

module _ (s : State) (input : List ℕ) (size : ℕ) (d : in_flight s.due ≡ true) (h : 95 ≤ size) where
  abbrev first : Progress
  first = nothing_taken s.due s.supervisor s.areas

  -- with room for an answer, the next frame is the whole one at the front
  first_next : next_of input size first ≡ whole_frame input
  unfolding next_of next_frame
  first_next = rw (d, le-ltb (size - 0) 95 (omega arith))

  first_taken : (turns : ℕ) → 0 < turns → whole_frame input ≤ (answer_frames turns s.flight input size first).taken
  unfolding answer_frames answer_next
  first_taken zero t = absurd (omega arith)
  first_taken (suc turns) t =
      by (next_of input size first) (eqb (next_of input size first) 0) first_next refl
      (frames_taken turns s.flight input size (answer_next s.flight input (next_of input size first) first))
    where
      by : (n : ℕ) (b : Bool) → n ≡ whole_frame input → eqb n 0 ≡ b
          → 0 + n ≤ (answer_frames turns s.flight input size (answer_next s.flight input n first)).taken
          → whole_frame input ≤ (cond b first (answer_frames turns s.flight input size (answer_next s.flight input n first))).taken
      by n true e q next = omega (arith, eqb-true n 0 q)
      by n false e q next = omega arith

  frames_still : (turns : ℕ) → whole_frame input ≡ 0 → answer_frames turns s.flight input size first ≡ first
  unfolding answer_frames
  frames_still zero e = refl
  frames_still (suc turns) e = rw (eq-eqb (next_of input size first) 0 (first_next ∙ e))

  fly_none : (answer_frames (length input) s.flight input size first).taken ≡ 0 → whole_frame input ≡ 0
  fly_none z = at (whole_frame input) refl
    where
      at : (n : ℕ) → n ≡ whole_frame input → whole_frame input ≡ 0
      at zero e = sym e
      at (suc n) e =
          let w = frame_within input (omega arith) in
          absurd (omega (arith, first_taken (length input) (omega (arith, w.0, w.1))))

-- no frame that is due is at the front, and the state is as it was, without a byte written
abbrev Still : State → List ℕ → Told → Type 0
Still s input t = (front_frame s.due input ≡ 0) × (t.after ≡ s) × (t.bytes ≡ [])

fly_still : (s : State) (input : List ℕ) (size : ℕ) → in_flight s.due ≡ true → 95 ≤ size
    → (fly_frames s.flight s.due s.supervisor s.areas input size).taken ≡ 0
    → Still s input (flown s (fly_frames s.flight s.due s.supervisor s.areas input size))
unfolding fly_frames front_frame
fly_still s input size d h z =
    let none = fly_none s input size d h z in
    rw (none, frames_still s input size d h (length input) none) (by s.due, refl, refl)
  where
    by : (due : Due) → ◌≡◌ {A = ℕ} (cond (in_setup due || in_flight due) 0 0) 0
    by Due.Config = refl
    by Due.Fence = refl
    by Due.Telemetry = refl
    by Due.AfterAreas = refl
    by Due.Nothing = refl

one_still : (s : State) (input : List ℕ) → in_flight s.due ≡ false → setup_frame s.due input ≡ 0 → Still s input (one_frame s input)
unfolding one_frame setup_frame front_frame
one_still s input d z = rw (z) (by s.due d z, refl, refl)
  where
    by : (due : Due) → in_flight due ≡ false → setup_frame due input ≡ 0 → front_frame due input ≡ 0
    by Due.Config d z = z
    by Due.Fence d z = z
    by Due.Telemetry d z = let n : ◌≡◌ {A = ℕ} 0 1 = cc in absurd (omega arith)
    by Due.AfterAreas d z = let n : ◌≡◌ {A = ℕ} 0 1 = cc in absurd (omega arith)
    by Due.Nothing d z = refl

pub turn_still : (size : ℕ) (s : State) (input : List ℕ) → 95 ≤ size → (turn size s input).taken ≡ 0 → Still s input (turn size s input)
unfolding turn one_frame
turn_still size s input h z = by (in_flight s.due) refl z
  where
    by : (b : Bool) → in_flight s.due ≡ b
        → (cond b (flown s (fly_frames s.flight s.due s.supervisor s.areas input size)) (one_frame s input)).taken ≡ 0
        → Still s input (cond b (flown s (fly_frames s.flight s.due s.supervisor s.areas input size)) (one_frame s input))
    by true d z = fly_still s input size d h z
    by false d z = one_still s input d z

-- ---- from turn to turn

-- a turn that takes something
pub next_taken : (size : ℕ) (p : Pending) (block : List ℕ) → 0 < (turn size p.now p.rest).taken
    → next size p block ≡ record { now = (turn size p.now p.rest).after; rest = drop (turn size p.now p.rest).taken p.rest }
unfolding next
next_taken size p block h = rw (ne_eqb (turn size p.now p.rest).taken 0 (λ z. omega arith))

-- a turn that takes nothing, and reads
pub next_read : (size : ℕ) (p : Pending) (block : List ℕ) → 95 ≤ size → (turn size p.now p.rest).taken ≡ 0 → next size p block ≡ record { now = p.now; rest = p.rest ++ block }
unfolding next
next_read size p block h z =
    let still = turn_still size p.now p.rest h z in
    rw (eq-eqb (turn size p.now p.rest).taken 0 z, still.1)
