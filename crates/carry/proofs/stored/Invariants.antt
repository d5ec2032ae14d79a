use Rattle.std.proofs.Common.{◌≡◌, length}
use Rattle.carry.specs.Held.{stored_first}
use Rattle.carry.proofs.stored.Given as goal

abbrev pub invariant-loop-k : goal.invariant-loop-k
invariant-loop-k l = (length l.r ≡ 30) × (l.r ≡ stored_first l.old l.reading l.k)
