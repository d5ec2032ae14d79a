use mathlib.Core.Path.{◌≡◌}
use mathlib.Core.Bool.{Bool}
use mathlib.Core.List.{[], ◌∷◌, ◌++◌}
use lib.Ieee.{le}
use lib.ListN.{drop}
use Rattle.std.specs.List.{list_any}
use Rattle.float32.specs.Binary32.{zero_f}
use Rattle.corners.proofs.Around.{pairs}
use Rattle.types.specs.declared.Point2.{Point2}
use Rattle.geometry.specs.Polygon.{zero_point}
use Rattle.geometry.specs.Distance.{edge_signed_distance}
use Rattle.frame_areas.proofs.home_inside.Given as goal

-- home is on a side, or outward of it
abbrev pub not_within : Point2 × Point2 → Bool
not_within s = le (edge_signed_distance zero_point s) zero_f

abbrev pub invariant-loop-b : goal.invariant-loop-b
invariant-loop-b l =
    list_any not_within (pairs l.a (drop l.b-index l.rest ++ l.first ∷ []))
    ≡ list_any not_within (pairs l.first (l.rest ++ l.first ∷ []))
