use mathlib.Core.Path.{◌≡◌}
use mathlib.Core.Bool.{true}
use Rattle.frame_decision.specs.Slots.{slots_valid}
use Rattle.frame_decision.proofs.slots_valid.Given as goal

abbrev pub invariant-loop-i : goal.invariant-loop-i
invariant-loop-i l = slots_valid l.s l.i ≡ true
