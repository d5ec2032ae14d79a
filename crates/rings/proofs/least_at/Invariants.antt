use Rattle.std.proofs.Common.{◌≡◌, ◌+◌, ◌-◌, ◌≤◌, length, drop}
use Rattle.rings.specs.Spelling.{least_at}
use Rattle.rings.specs.Corner.{before}
use Rattle.rings.proofs.least_at.Given as goal

abbrev pub invariant-loop-i : goal.invariant-loop-i
invariant-loop-i l = (l.k ≤ length l.ring - 1) × (l.k ≡ l.i + least_at before (drop l.i l.ring))
