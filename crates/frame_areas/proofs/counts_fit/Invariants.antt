use Prim.Native.Nat.{◌+◌}
use mathlib.Core.Path.{◌≡◌}
use lib.ListN.{length}
use Rattle.frame_areas.specs.AreasFrame.{bodies, held_in, bodies_of}
use Rattle.frame_areas.proofs.counts_fit.Given as goal

abbrev pub invariant-loop-body : goal.invariant-loop-body
invariant-loop-body l =
    ((goal.iterator-loop-body).can_next l.body-iterator × (goal.iterator-loop-body).is_finite l.body-iterator)
    × (l.n + length (bodies l.body-iterator.left l.body-iterator.rest.now) ≡ length (held_in l.s))
    × (l.bytes + length (bodies_of (bodies l.body-iterator.left l.body-iterator.rest.now)) ≡ 5 + length (bodies_of (held_in l.s)))
