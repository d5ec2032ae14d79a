-- `frame_wide::low_timers` meets its contract. Assumes nothing.
use Prim.Native.Nat.{ℕ}
use mathlib.Core.Path.{◌≡◌, ◌∙◌, ap, refl}
use native.Mathlib.Omega.{arith}
use lib.ListN.{length}
use lib.Seq.{sets, length-sets}
use Rattle.frame_wide.specs.Stored.{low_row}
use Rattle.frame_wide.proofs.Places.{low_next}
use Rattle.frame_wide.proofs.low_timers.Goals as goal

pub loop-k-init : goal.loop-k-init
unfolding low_row
loop-k-init c = (refl, refl)

pub loop-k-preserved : goal.loop-k-preserved
loop-k-preserved c =
    let l = c.loop-k in
    let e = c.put_low.ensures in
    (ap length e ∙ simp length-sets l.invariant.0, low_next c.args.to.now c.args.s.now c.args.given.now l.k l.invariant.1 e)

pub returns : goal.returns
returns c =
    let l = c.loop-k in
    let all : l.k ≡ 24 = omega arith in
    l.invariant.1 ∙ ap (λ (k : ℕ). sets c.args.to.now 6 (low_row c.args.s.now c.args.given.now k)) all
