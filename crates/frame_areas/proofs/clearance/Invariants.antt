use mathlib.Core.Path.{◌≡◌}
use Rattle.areas.specs.Clearance.{clearance}
use Rattle.frame_areas.specs.AreaFrame.{distance_at}
use Rattle.frame_areas.specs.AreasFrame.{bodies, clearance_at}
use Rattle.frame_areas.proofs.clearance.Given as goal

abbrev pub invariant-loop-body : goal.invariant-loop-body
invariant-loop-body l =
    ((goal.iterator-loop-body).can_next l.body-iterator × (goal.iterator-loop-body).is_finite l.body-iterator)
    × (clearance (distance_at l.p) l.near (bodies l.body-iterator.left l.body-iterator.rest.now) ≡ clearance_at l.s l.initial.near l.p)
