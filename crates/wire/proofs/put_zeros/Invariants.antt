use mathlib.Core.Path.{◌≡◌}
use lib.ListN.{replicate}
use lib.Seq.{sets}
use Rattle.wire.proofs.put_zeros.Given as goal

abbrev pub invariant-loop-i : goal.invariant-loop-i
invariant-loop-i l = l.s ≡ sets l.initial.s l.at (replicate l.i 0)
