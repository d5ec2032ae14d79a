use mathlib.Core.Path.{◌≡◌}
use lib.ListN.{length}
use Rattle.frame_wide.proofs.Nexts.{stayed}
use Rattle.frame_wide.proofs.instants_next.Given as goal

abbrev pub invariant-loop-k : goal.invariant-loop-k
invariant-loop-k l = (length l.r ≡ 30) × (l.r ≡ stayed l.s l.x l.x l.step.reading l.k)
