-- The first `i` elements are the first `i` draws, and `y` is the generator after them.
use Rattle.std.proofs.Common.{◌≡◌, length, take}
use Rattle.trial.specs.Draws.{drawn, draws_of}
use Rattle.trial.proofs.draws.Given as goal

abbrev pub invariant-loop-i : goal.invariant-loop-i
invariant-loop-i l = (length l.d ≡ 38) × (take l.i l.d ≡ draws_of l.i l.x) × (l.y ≡ drawn l.i l.x)
