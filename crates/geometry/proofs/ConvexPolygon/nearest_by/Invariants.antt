use Rattle.std.proofs.Common.{◌≡◌, [], ◌∷◌, ◌++◌, drop, false}
use lib.Ieee.{inf}
use Rattle.corners.specs.Ring.{beside}
use Rattle.corners.proofs.Around.{pairs}
use Rattle.geometry.specs.Distance.{no_side, edge_signed_distance_by, nearest_from}
use Rattle.geometry.proofs.ConvexPolygon.nearest_by.Given as goal

abbrev pub invariant-loop-i : goal.invariant-loop-i
invariant-loop-i l =
    nearest_from (edge_signed_distance_by l.p) l.i l.near (beside (pairs l.a (drop l.i l.rest ++ l.first ∷ [])) (drop l.i l.lengths.m))
    ≡ nearest_from (edge_signed_distance_by l.p) 0 (no_side (inf false)) (beside (pairs l.first (l.rest ++ l.first ∷ [])) l.lengths.m)
