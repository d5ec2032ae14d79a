-- As many turns as the input has bytes are enough: after them no frame is left that would be answered. Assumes nothing.
use Rattle.wire.proofs.Head.{room}
use Prim.Native.Nat.{ℕ, zero, suc, ◌+◌, ◌≤◌}
use native.Mathlib.Omega.{arith}
use mathlib.Core.Bool.{Bool, true, false, cond}
use mathlib.Core.List.{List}
use mathlib.Core.Path.{◌≡◌, refl}
use lib.Dec.{eqb, ltb}
use lib.ListN.{length, length-drop}
use borrow.Author.Tests.{eqb-true, eqb-false, lt-ltb}
use Rattle.flight.specs.declared.Flight.{Flight}
use Rattle.supervisor.specs.declared.Supervisor.{Supervisor}
use Rattle.wire.specs.Frame.{whole_frame}
use Rattle.stream.specs.declared.Due.{Due}
use Rattle.stream.specs.Stream.{Progress, in_flight, next_frame, next_of, answer_next, answer_frames, fly_frames, nothing_taken}

-- of fewer than two bytes none is a frame
no_frame : (due : Due) (input : List ℕ) (room : ℕ) → length input ≤ 0 → next_frame due input room ≡ 0
unfolding next_frame whole_frame
no_frame due input room h = rw (lt-ltb (length input) 2 (omega arith)) (by (in_flight due) (ltb room 95))
  where
    by : (b r : Bool) → ◌≡◌ {A = ℕ} (cond b (cond r 0 0) 0) 0
    by true true = refl
    by true false = refl
    by false r = refl

none_left : (turns : ℕ) (f : Flight) (input : List ℕ) (size : ℕ) (p : Progress) → length input ≤ p.taken + turns → next_of input size (answer_frames turns f input size p) ≡ 0
unfolding answer_frames next_of answer_next
none_left zero f input size p h = no_frame _ _ _ (simp length-drop (omega arith))
none_left (suc turns) f input size p h =
    let n = next_of input size p in
    by (eqb n 0) refl (λ z. none_left turns f input size (answer_next f input n p) (more n z))
  where
    more : (n : ℕ) → (n ≡ 0 → ⊥) → length input ≤ p.taken + n + turns
    more zero z = absurd (z refl)
    more (suc n) z = omega arith

    by : (b : Bool) → eqb (next_of input size p) 0 ≡ b
        → ((next_of input size p ≡ 0 → ⊥) → next_of input size (answer_frames turns f input size (answer_next f input (next_of input size p) p)) ≡ 0)
        → next_of input size (cond b p (answer_frames turns f input size (answer_next f input (next_of input size p) p))) ≡ 0
    by true e next = eqb-true _ _ e
    by false e next = next (eqb-false _ _ e)

pub enough : (f : Flight) (due : Due) (s : Supervisor) (areas input : List ℕ) (size : ℕ) → next_of input size (fly_frames f due s areas input size) ≡ 0
unfolding fly_frames
enough f due s areas input size = none_left (length input) f input size (nothing_taken due s areas) (omega arith)
