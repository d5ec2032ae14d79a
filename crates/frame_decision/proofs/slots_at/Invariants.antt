use mathlib.Core.Path.{◌≡◌}
use lib.ListN.{length, take}
use Rattle.frame_decision.specs.Slots.{slots_at}
use Rattle.frame_decision.proofs.slots_at.Given as goal

abbrev pub invariant-loop-i : goal.invariant-loop-i
invariant-loop-i l = (length l.reqs ≡ 19) × (take l.i l.reqs ≡ slots_at l.s l.i)
