-- `wire::put_zeros` meets its contract. Assumes nothing.
use Prim.Native.Nat.{ℕ, ◌+◌, ◌-◌, ◌≤◌, min}
use mathlib.Core.Path.{◌≡◌, ◌∙◌, sym, ap, refl}
use mathlib.Core.List.{List}
use mathlib.Core.Bool.{Bool, true, false}
use native.Mathlib.Omega.{arith}
use lib.Dec.{ltb}
use lib.ListN.{length, set, replicate, length-replicate, replicate-append-replicate}
use lib.Seq.{sets, length-sets}
use borrow.Author.Tests.{ltb-true, ltb-false}
use Rattle.wire.proofs.Past.{sets_past}
use Rattle.wire.proofs.Stores.{sets_append}
use Rattle.wire.proofs.put_zeros.Goals as goal

-- m zeros and n more
more : (l : List ℕ) (at m n : ℕ) → sets (sets l at (replicate m 0)) (at + m) (replicate n 0) ≡ sets l at (replicate (m + n) 0)
more l at m n =
    sym
    (ap (sets l at) (sym (replicate-append-replicate m n 0))
    ∙ sets_append l at (replicate m 0) (replicate n 0)
    ∙ ap (λ (k : ℕ). sets (sets l at (replicate m 0)) (at + k) (replicate n 0)) (length-replicate m 0))

-- those past the end are not stored
within : (b : Bool) (l : List ℕ) (at n : ℕ) → at ≤ length l → ltb n (length l - at) ≡ b → sets l at (replicate (min n (length l - at)) 0) ≡ sets l at (replicate n 0)
within true l at n h e = let m : min n (length l - at) ≡ n = omega (arith, ltb-true n (length l - at) e) in ap (λ (k : ℕ). sets l at (replicate k 0)) m
within false l at n h e =
    let k = length l - at in
    let f : k ≤ n = ltb-false n k e in
    let m : min n k ≡ k = omega arith in
    let d : k + (n - k) ≡ n = omega arith in
    let p = sets l at (replicate k 0) in
    ap (λ (j : ℕ). sets l at (replicate j 0)) m
    ∙ sym (sets_past p (at + k) (replicate (n - k) 0) (omega (arith, length-sets l at (replicate k 0))))
    ∙ more l at k (n - k)
    ∙ ap (λ (j : ℕ). sets l at (replicate j 0)) d

pub loop-i-preserved : goal.loop-i-preserved
loop-i-preserved c =
    let l = c.loop-i in
    let a = c.args in
    (λ j. set (l.invariant j) (a.at + l.i) 0) ∙ more a.s.now a.at l.i 1

pub returns-after-loop-i : goal.returns-after-loop-i
returns-after-loop-i c =
    let l = c.loop-i in
    let a = c.args in
    let e : l.i ≡ min a.n (length a.s.now - a.at) = omega (arith, c.min-i-end.ensures) in
    l.invariant ∙ ap (λ (k : ℕ). sets a.s.now a.at (replicate k 0)) e ∙ within (ltb a.n (length a.s.now - a.at)) a.s.now a.at a.n (omega arith) refl

pub returns-else-at-s : goal.returns-else-at-s
returns-else-at-s c = let a = c.args in sym (sets_past a.s.now a.at (replicate a.n 0) c.if-at-s.false)
