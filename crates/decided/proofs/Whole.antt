-- What is written, without a count of turns. Assumes nothing.
use Prim.Native.Nat.{ℕ, zero, suc, ◌+◌, ◌≤◌, ◌<◌}
use native.Mathlib.Omega.{arith}
use mathlib.Core.Bool.{Bool, true, false, ◌||◌, cond}
use mathlib.Core.List.{List, ◌++◌}
use mathlib.Core.Path.{◌≡◌, refl, sym, ◌∙◌, ap}
use lib.Dec.{eqb, ltb}
use lib.ListN.{length, take, drop, length-drop, length-append, get_or-append}
use lib.Seq.{take-append-le, drop-append-le}
use borrow.Author.Tests.{eqb-true, eqb-false, eq-eqb, ne_eqb, ltb-false, lt-ltb, le-ltb}
use Rattle.wire.specs.Fields.{u8_at, number_at, u16_at}
use Rattle.wire.specs.Frame.{whole_frame}
use Rattle.stream.specs.declared.Due.{Due}
use Rattle.stream.specs.Stream.{in_setup, in_flight, end_bytes}
use Rattle.decided.specs.Decided.{State, answer, front_frame, written_in, written_from}

-- ---- a whole frame at the front

-- it has at least two bytes, and lies within the input
pub frame_within : (input : List ℕ) → 0 < whole_frame input → (2 ≤ whole_frame input) × (whole_frame input ≤ length input)
unfolding whole_frame
frame_within input h = at (ltb (length input) 2) (ltb (length input) (2 + u16_at input 0)) refl refl h
  where
    at : (a b : Bool) → ltb (length input) 2 ≡ a → ltb (length input) (2 + u16_at input 0) ≡ b
        → 0 < cond a 0 (cond b 0 (2 + u16_at input 0))
        → (2 ≤ cond a 0 (cond b 0 (2 + u16_at input 0))) × (cond a 0 (cond b 0 (2 + u16_at input 0)) ≤ length input)
    at true b e q h = absurd (omega arith)
    at false true e q h = absurd (omega arith)
    at false false e q h = (omega arith, ltb-false _ _ q)

-- of nothing none is a frame
pub frame_none : (input : List ℕ) → length input ≤ 0 → whole_frame input ≡ 0
unfolding whole_frame
frame_none input h = rw (lt-ltb (length input) 2 (omega arith))

length-same : (input more : List ℕ) → 2 ≤ length input → u16_at (input ++ more) 0 ≡ u16_at input 0
unfolding u16_at number_at u8_at
length-same input more h = rw (get_or-append input more 0 0 (omega arith), get_or-append input more 0 1 (omega arith))

-- more input behind it changes nothing
pub frame_same : (input more : List ℕ) → 0 < whole_frame input → whole_frame (input ++ more) ≡ whole_frame input
unfolding whole_frame
frame_same input more h =
    let w = frame_within input h in
    at (omega (arith, w.0, w.1)) (ltb (length input) 2) (ltb (length input) (2 + u16_at input 0)) refl refl h
  where
    at : 2 ≤ length input → (a b : Bool) → ltb (length input) 2 ≡ a → ltb (length input) (2 + u16_at input 0) ≡ b
        → 0 < cond a 0 (cond b 0 (2 + u16_at input 0))
        → whole_frame (input ++ more) ≡ cond a 0 (cond b 0 (2 + u16_at input 0))
    at two true b e q h = absurd (omega arith)
    at two false true e q h = absurd (omega arith)
    at two false false e q h =
        let long : 2 + u16_at input 0 ≤ length input = ltb-false _ _ q in
        rw (
          length-same input more two,
          le-ltb (length (input ++ more)) 2 (simp length-append (omega arith)),
          le-ltb (length (input ++ more)) (2 + u16_at input 0) (simp length-append (omega arith)),
        )

-- ---- the frame that is answered

pub front_within : (due : Due) (input : List ℕ) → 0 < front_frame due input → (2 ≤ front_frame due input) × (front_frame due input ≤ length input)
unfolding front_frame
front_within due input h = at (in_setup due || in_flight due) h
  where
    at : (b : Bool) → 0 < cond b (whole_frame input) 0 → (2 ≤ cond b (whole_frame input) 0) × (cond b (whole_frame input) 0 ≤ length input)
    at true h = frame_within input h
    at false h = absurd (omega arith)

pub front_same : (due : Due) (input more : List ℕ) → 0 < front_frame due input → front_frame due (input ++ more) ≡ front_frame due input
unfolding front_frame
front_same due input more h = at (in_setup due || in_flight due) h
  where
    at : (b : Bool) → 0 < cond b (whole_frame input) 0 → cond b (whole_frame (input ++ more)) 0 ≡ cond b (whole_frame input) 0
    at true h = frame_same input more h
    at false h = absurd (omega arith)

-- ---- as many turns as there are bytes are enough

pub positive : (n : ℕ) → (n ≡ 0 → ⊥) → 0 < n
positive zero z = absurd (z refl)
positive (suc n) z = omega arith

pub turn_end : (turns : ℕ) (s : State) (input : List ℕ) → front_frame s.due input ≡ 0 → written_in turns s input ≡ end_bytes s.due (length input)
unfolding written_in
turn_end zero s input e = refl
turn_end (suc turns) s input e = rw (eq-eqb (front_frame s.due input) 0 e)

turn_frame : (turns : ℕ) (s : State) (input : List ℕ) → 0 < front_frame s.due input
    → written_in (suc turns) s input ≡ (answer s (take (front_frame s.due input) input)).bytes ++ written_in turns (answer s (take (front_frame s.due input) input)).after (drop (front_frame s.due input) input)
unfolding written_in
turn_frame turns s input h = rw (ne_eqb (front_frame s.due input) 0 (λ z. omega arith))

pub front_none : (due : Due) (input : List ℕ) → length input ≤ 0 → front_frame due input ≡ 0
unfolding front_frame
front_none due input h = rw (frame_none input h) (at (in_setup due || in_flight due))
  where
    at : (b : Bool) → ◌≡◌ {A = ℕ} (cond b 0 0) 0
    at true = refl
    at false = refl

-- the state after the frame at the front, and the input behind it
abbrev pub next_state : State → List ℕ → State
next_state s input = (answer s (take (front_frame s.due input) input)).after

abbrev pub behind_frame : State → List ℕ → List ℕ
behind_frame s input = drop (front_frame s.due input) input

shorter : (k : ℕ) (s : State) (input : List ℕ) → 0 < front_frame s.due input → length input ≤ suc k → length (behind_frame s input) ≤ k
shorter k s input h l = simp length-drop (omega (arith, (front_within s.due input h).0))

enough : (k m : ℕ) (s : State) (input : List ℕ) → length input ≤ k → length input ≤ m → written_in k s input ≡ written_in m s input
enough zero m s input hk hm =
    let z = front_none s.due input hk in
    turn_end zero s input z ∙ sym (turn_end m s input z)
enough (suc k) zero s input hk hm =
    let z = front_none s.due input hm in
    turn_end (suc k) s input z ∙ sym (turn_end zero s input z)
enough (suc k) (suc m) s input hk hm =
    by (eqb (front_frame s.due input) 0) refl (λ h. enough k m (next_state s input) (behind_frame s input) (shorter k s input h hk) (shorter m s input h hm))
  where
    by : (b : Bool) → eqb (front_frame s.due input) 0 ≡ b
        → (0 < front_frame s.due input → written_in k (next_state s input) (behind_frame s input) ≡ written_in m (next_state s input) (behind_frame s input))
        → written_in (suc k) s input ≡ written_in (suc m) s input
    by true e next =
        let z = eqb-true _ _ e in
        turn_end (suc k) s input z ∙ sym (turn_end (suc m) s input z)
    by false e next =
        let h = positive (front_frame s.due input) (eqb-false _ _ e) in
        turn_frame k s input h
        ∙ ap (λ (r : List ℕ). (answer s (take (front_frame s.due input) input)).bytes ++ r) (next h)
        ∙ sym (turn_frame m s input h)

-- ---- the two laws of the definition, which leave no room for another: what is written where no frame is answered, and where one is

pub written_end : (s : State) (input : List ℕ) → front_frame s.due input ≡ 0 → written_from s input ≡ end_bytes s.due (length input)
unfolding written_from
written_end s input e = turn_end (length input) s input e

at_frame : (s : State) (input : List ℕ) → 0 < front_frame s.due input
    → written_from s input ≡ (answer s (take (front_frame s.due input) input)).bytes ++ written_from (next_state s input) (behind_frame s input)
unfolding written_from
at_frame s input h =
    enough (length input) (suc (length input)) s input (omega arith) (omega arith)
    ∙ turn_frame (length input) s input h
    ∙ ap (λ (r : List ℕ). (answer s (take (front_frame s.due input) input)).bytes ++ r)
    (enough (length input) (length (behind_frame s input)) (next_state s input) (behind_frame s input) (simp length-drop (omega arith)) (omega arith))

pub written_frame : (s : State) (input : List ℕ) (n : ℕ) → n ≡ front_frame s.due input → 0 < n
    → written_from s input ≡ (answer s (take n input)).bytes ++ written_from (answer s (take n input)).after (drop n input)
written_frame s input n e h = rw e (at_frame s input (omega arith))

-- the same with more input behind the frame
pub written_more : (s : State) (input more : List ℕ) (n : ℕ) → n ≡ front_frame s.due input → 0 < n
    → written_from s (input ++ more) ≡ (answer s (take n input)).bytes ++ written_from (answer s (take n input)).after (drop n input ++ more)
written_more s input more n e h =
    let same : n ≡ front_frame s.due (input ++ more) = e ∙ sym (front_same s.due input more (omega arith)) in
    let w : n ≤ length input = omega (arith, (front_within s.due input (omega arith)).1) in
    rw (← take-append-le n input more w, ← drop-append-le n input more w) (written_frame s (input ++ more) n same h)
