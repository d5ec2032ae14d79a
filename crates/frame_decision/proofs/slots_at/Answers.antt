-- `frame_decision::slots_at` meets its contract. Assumes nothing.
use Prim.Native.Nat.{◌<◌}
use mathlib.Core.Path.{refl}
use native.Mathlib.Numerals.{add-one}
use native.Mathlib.Omega.{arith}
use lib.ListN.{length, length-set}
use lib.Seq.{take-suc-set}
use Rattle.frame_decision.specs.Slots.{slots_at}
use Rattle.frame_decision.proofs.slots_at.Goals as goal

pub loop-i-init : goal.loop-i-init
unfolding slots_at
loop-i-init c = (refl, refl)

pub loop-i-preserved : goal.loop-i-preserved
unfolding slots_at
loop-i-preserved c =
    let l = c.loop-i in
    let h : l.i < length l.reqs = omega arith in
    (simp length-set l.invariant.0, rw (c.from.ensures, add-one, take-suc-set, c.slot_at.ensures, l.invariant.1))
