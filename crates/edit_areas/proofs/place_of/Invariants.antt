use Prim.Native.Nat.{◌+◌, min}
use mathlib.Core.Path.{◌≡◌}
use lib.ListN.{length}
use Rattle.frame_areas.specs.AreasFrame.{bodies, held_in, bodies_of}
use Rattle.edit_areas.specs.Cut.{place_of}
use Rattle.edit_areas.proofs.Cuts.{place_from}
use Rattle.edit_areas.proofs.place_of.Given as goal

abbrev pub invariant-loop-body : goal.invariant-loop-body
invariant-loop-body l =
    ((goal.iterator-loop-body).can_next l.body-iterator × (goal.iterator-loop-body).is_finite l.body-iterator)
    × (l.at + length (bodies_of (bodies l.body-iterator.left l.body-iterator.rest.now)) ≡ min (length l.s) 5 + length (bodies_of (held_in l.s)))
    × (place_from l.at l.number (bodies l.body-iterator.left l.body-iterator.rest.now) ≡ place_of l.s l.number)
