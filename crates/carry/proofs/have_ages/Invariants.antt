use Rattle.std.proofs.Common.{◌≡◌}
use Rattle.carry.specs.Held.{aged}
use Rattle.carry.proofs.have_ages.Given as goal

abbrev pub invariant-loop-k : goal.invariant-loop-k
invariant-loop-k l = l.all ≡ aged l.old l.reading l.k
