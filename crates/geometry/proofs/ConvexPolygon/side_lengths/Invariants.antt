use Rattle.std.proofs.Common.{◌≡◌, ◌-◌, [], ◌∷◌, ◌++◌, take, drop, map, replicate}
use Rattle.float32.specs.Binary32.{zero_f}
use Rattle.corners.proofs.Around.{pairs}
use Rattle.geometry.specs.Distance.{side_length}
use Rattle.geometry.proofs.ConvexPolygon.side_lengths.Given as goal

abbrev pub invariant-loop-i : goal.invariant-loop-i
invariant-loop-i l =
    (drop l.i (pairs l.first (l.rest ++ l.first ∷ [])) ≡ pairs l.a (drop l.i l.rest ++ l.first ∷ []))
    × (l.m ≡ take l.i (map side_length (pairs l.first (l.rest ++ l.first ∷ []))) ++ replicate (16 - l.i) zero_f)
