-- What the program has written after any turns, and at its end. Assumes nothing.
use Prim.Native.Nat.{ℕ, ◌≤◌}
use mathlib.Core.Bool.{Bool, true, false, cond}
use mathlib.Core.List.{List, [], ◌++◌, append_assoc, append-nil}
use mathlib.Core.Path.{◌≡◌, refl, sym, ◌∙◌, ap}
use lib.Dec.{eqb}
use lib.ListN.{length}
use borrow.Author.Tests.{eqb-true, eqb-false}
use Rattle.stream.specs.declared.Due.{Due}
use Rattle.stream.specs.Stream.{end_bytes}
use Rattle.decided.specs.Decided.{written_from, decided}
use Rattle.decided.specs.Program.{Pending, turn, next, started, Turns, start, turned, read_by, written_by, ProgramClaim}
use Rattle.decided.proofs.Whole.{positive, written_end}
use Rattle.decided.proofs.Turns.{turn_written, turn_still, next_taken, next_read}
use Rattle.decided.proofs.Output.{nothing_more}

-- one turn more: what it wrote, with what is written from there on, is what is written from the place before on, for the block that it read and more
one_more : (size : ℕ) (p : Pending) (block more : List ℕ) → 95 ≤ size
    → (turn size p.now p.rest).bytes ++ written_from (next size p block).now ((next size p block).rest ++ more)
    ≡ written_from p.now (p.rest ++ (cond (eqb (turn size p.now p.rest).taken 0) block [] ++ more))
one_more size p block more h = by (eqb (turn size p.now p.rest).taken 0) refl
  where
    by : (b : Bool) → eqb (turn size p.now p.rest).taken 0 ≡ b
        → (turn size p.now p.rest).bytes ++ written_from (next size p block).now ((next size p block).rest ++ more)
        ≡ written_from p.now (p.rest ++ (cond b block [] ++ more))
    by true e =
        let z = eqb-true _ _ e in
        rw (next_read size p block h z, (turn_still size p.now p.rest h z).2, append_assoc)
    by false e =
        let t = positive (turn size p.now p.rest).taken (eqb-false _ _ e) in
        rw (next_taken size p block t) (sym (turn_written size p.now p.rest more))

so_far : {size : ℕ} {p : Pending} (t : Turns size p) (more : List ℕ) → 95 ≤ size → written_by t ++ written_from p.now (p.rest ++ more) ≡ decided (read_by t ++ more)
unfolding read_by written_by decided started
so_far start more h = refl
so_far {size} (turned p block t) more h =
    let got = cond (eqb (turn size p.now p.rest).taken 0) block [] in
    append_assoc (written_by t) (turn size p.now p.rest).bytes (written_from (next size p block).now ((next size p block).rest ++ more))
    ∙ ap (λ (r : List ℕ). written_by t ++ r) (one_more size p block more h)
    ∙ so_far t (got ++ more) h
    ∙ ap decided (sym (append_assoc (read_by t) got more))

at_the_end : {size : ℕ} {p : Pending} (t : Turns size p) → 95 ≤ size → (turn size p.now p.rest).taken ≡ 0 → written_by t ++ end_bytes p.now.due (length p.rest) ≡ decided (read_by t)
at_the_end {size} {p} t h z =
    let end = written_end p.now p.rest (turn_still size p.now p.rest h z).0 in
    let law = so_far t [] h in
    rw (← end) (simp append-nil at law)

refused : {size : ℕ} {p : Pending} (t : Turns size p) (more : List ℕ) → 95 ≤ size → p.now.due ≡ Due.Nothing → written_by t ≡ decided (read_by t ++ more)
refused {size} {p} t more h e = sym (append-nil (written_by t)) ∙ ap (λ (r : List ℕ). written_by t ++ r) (sym (nothing_more p.now (p.rest ++ more) e)) ∙ so_far t more h

pub program_claim : ProgramClaim
program_claim = record { so_far = so_far; at_the_end = at_the_end; refused = refused }
