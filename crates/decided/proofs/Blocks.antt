-- It does not matter how the input is cut into blocks. Assumes nothing.
use Prim.Native.Nat.{ℕ, zero, suc, ◌≤◌, ◌<◌}
use native.Mathlib.Omega.{arith}
use mathlib.Core.Bool.{Bool, true, false, cond}
use mathlib.Core.List.{List, [], ◌∷◌, ◌++◌, append_assoc, append-nil}
use mathlib.Core.Path.{◌≡◌, refl, sym, ◌∙◌, ap, subst}
use lib.ListN.{length, length-drop}
use Rattle.wire.specs.Frame.{whole_frame}
use Rattle.stream.specs.declared.Due.{Due}
use Rattle.stream.specs.Stream.{in_flight, setup_frame, answer_frames, fly_frames, end_bytes}
use Rattle.decided.specs.Decided.{State, written_from, decided}
use Rattle.decided.specs.Program.{Pending, flown, one_frame, turn, next, started}
use Rattle.decided.specs.Blocks.{Writes, over, answers, reads, ends, joined, BlocksClaim}
use Rattle.decided.proofs.Whole.{written_end}
use Rattle.decided.proofs.Turns.{turn_written, turn_still, next_taken, next_read}
use Rattle.decided.proofs.Output.{nothing_more}

-- what is written from a place between two turns on, where these blocks are still to be read
abbrev all : Pending → List (List ℕ) → List ℕ
all p blocks = written_from p.now (p.rest ++ joined blocks)

answers_all : (size : ℕ) (p : Pending) (blocks : List (List ℕ)) → 0 < (turn size p.now p.rest).taken
    → (turn size p.now p.rest).bytes ++ all (next size p []) blocks ≡ all p blocks
answers_all size p blocks h = rw (next_taken size p [] h) (sym (turn_written size p.now p.rest (joined blocks)))

reads_all : (size : ℕ) (p : Pending) (block : List ℕ) (blocks : List (List ℕ)) → 95 ≤ size → (turn size p.now p.rest).taken ≡ 0
    → all (next size p block) blocks ≡ all p (block ∷ blocks)
unfolding joined
reads_all size p block blocks h z = rw (next_read size p block h z, append_assoc)

ends_all : (size : ℕ) (p : Pending) → 95 ≤ size → (turn size p.now p.rest).taken ≡ 0 → end_bytes p.now.due (length p.rest) ≡ all p []
unfolding joined
ends_all size p h z = rw append-nil (sym (written_end p.now p.rest (turn_still size p.now p.rest h z).0))

-- every run writes what is written from there on
run_only : {size : ℕ} {p : Pending} {blocks : List (List ℕ)} {written : List ℕ} → 95 ≤ size → Writes size p blocks written → written ≡ all p blocks
run_only h (over p blocks e) = sym (nothing_more p.now (p.rest ++ joined blocks) e)
run_only {size} h (answers p blocks more t w) = ap (λ (r : List ℕ). (turn size p.now p.rest).bytes ++ r) (run_only h w) ∙ answers_all size p blocks t
run_only {size} h (reads p block blocks more z w) = run_only h w ∙ reads_all size p block blocks h z
run_only {size} h (ends p z) = ends_all size p h z

-- of nothing nothing is taken
turn_nothing : (size : ℕ) (s : State) (input : List ℕ) → length input ≤ 0 → (turn size s input).taken ≡ 0
unfolding turn fly_frames answer_frames one_frame setup_frame whole_frame
turn_nothing size s [] l = by (in_flight s.due)
  where
    none : (due : Due) → setup_frame due [] ≡ 0
    none Due.Config = refl
    none Due.Fence = refl
    none Due.Telemetry = refl
    none Due.AfterAreas = refl
    none Due.Nothing = refl

    by : (b : Bool) → (cond b (flown s (fly_frames s.flight s.due s.supervisor s.areas [] size)) (one_frame s [])).taken ≡ 0
    by true = refl
    by false = none s.due
turn_nothing size s (x ∷ input) l = absurd (omega arith)

-- a place between two turns has a run, where each has that leaves nothing to answer
turns_run : (size k : ℕ) (blocks : List (List ℕ))
    → ((p : Pending) → (turn size p.now p.rest).taken ≡ 0 → Writes size p blocks (all p blocks))
    → (p : Pending) → length p.rest ≤ k → Writes size p blocks (all p blocks)
turns_run size zero blocks last p l = last p (turn_nothing size p.now p.rest l)
turns_run size (suc k) blocks last p l =
    by (turn size p.now p.rest).taken refl (λ t. turns_run size k blocks last (next size p []) (rw (next_taken size p [] t) (simp length-drop (omega arith))))
  where
    by : (n : ℕ) → n ≡ (turn size p.now p.rest).taken
        → (0 < (turn size p.now p.rest).taken → Writes size (next size p []) blocks (all (next size p []) blocks))
        → Writes size p blocks (all p blocks)
    by zero e then = last p (sym e)
    by (suc n) e then =
        let t : 0 < (turn size p.now p.rest).taken = omega arith in
        subst (Writes size p blocks) (answers_all size p blocks t) (answers p blocks (all (next size p []) blocks) t (then t))

blocks_run : (size : ℕ) → 95 ≤ size → (blocks : List (List ℕ)) (p : Pending) → Writes size p blocks (all p blocks)
blocks_run size h [] p = turns_run size (length p.rest) [] (λ (q : Pending) z. subst (Writes size q []) (ends_all size q h z) (ends q z)) p (omega arith)
blocks_run size h (block ∷ blocks) p =
    turns_run size (length p.rest) (block ∷ blocks)
    (λ (q : Pending) z. subst (Writes size q (block ∷ blocks)) (reads_all size q block blocks h z) (reads q block blocks (all (next size q block) blocks) z (blocks_run size h blocks (next size q block))))
    p
    (omega arith)

pub any_blocks : BlocksClaim
unfolding decided started
any_blocks = record { some = λ size blocks h. blocks_run size h blocks started; only = λ size blocks written h w. run_only h w }

-- two ways to cut one input, with output blocks of two sizes, write the same
pub same_however : (size₁ size₂ : ℕ) (blocks₁ blocks₂ : List (List ℕ)) (written₁ written₂ : List ℕ) → 95 ≤ size₁ → 95 ≤ size₂ → joined blocks₁ ≡ joined blocks₂
    → Writes size₁ started blocks₁ written₁ → Writes size₂ started blocks₂ written₂ → written₁ ≡ written₂
same_however size₁ size₂ blocks₁ blocks₂ written₁ written₂ h₁ h₂ e w₁ w₂ =
    any_blocks.only size₁ blocks₁ written₁ h₁ w₁ ∙ ap decided e ∙ sym (any_blocks.only size₂ blocks₂ written₂ h₂ w₂)
