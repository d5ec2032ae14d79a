use mathlib.Core.Path.{◌≡◌}
use mathlib.Core.Bool.{true}
use Rattle.frame_state.specs.StateFrame.{timers_valid}
use Rattle.frame_state.proofs.timers_valid.Given as goal

abbrev pub invariant-loop-i : goal.invariant-loop-i
invariant-loop-i l = timers_valid l.s l.i ≡ true
