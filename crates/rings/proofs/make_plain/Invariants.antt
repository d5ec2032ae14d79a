use Rattle.std.proofs.Common.{◌≡◌, ◌++◌, map, take, drop}
use Rattle.rings.specs.Corner.{plain}
use Rattle.rings.proofs.make_plain.Given as goal

abbrev pub invariant-loop-p : goal.invariant-loop-p
invariant-loop-p l = l.ring ≡ map plain (take l.p-index l.initial.ring) ++ drop l.p-index l.initial.ring
