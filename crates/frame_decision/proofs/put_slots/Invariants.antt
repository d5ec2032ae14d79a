use Prim.Native.Nat.{◌*◌, ◌-◌}
use mathlib.Core.Path.{◌≡◌}
use mathlib.Core.List.{◌++◌}
use lib.ListN.{replicate}
use lib.Seq.{sets}
use Rattle.frame_decision.specs.Slots.{le_slots}
use Rattle.frame_decision.proofs.put_slots.Given as goal

abbrev pub invariant-loop-i : goal.invariant-loop-i
invariant-loop-i l = l.s ≡ sets l.initial.s 7 (le_slots l.i l.a.reqs ++ replicate (57 - 3 * l.i) 0)
