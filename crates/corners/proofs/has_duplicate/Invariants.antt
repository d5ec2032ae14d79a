use Rattle.std.proofs.Common.{◌≡◌, length}
use Rattle.std.specs.List.{list_any}
use Rattle.corners.specs.Ring.{tails}
use Rattle.corners.specs.Acceptance.{recurs}
use Rattle.corners.proofs.has_duplicate.Given as goal

abbrev pub invariant-loop-left : goal.invariant-loop-left
invariant-loop-left l = list_any recurs (tails l.left) ≡ list_any recurs (tails l.pts)

abbrev pub decreases-loop-left : goal.decreases-loop-left
decreases-loop-left l = length l.left
