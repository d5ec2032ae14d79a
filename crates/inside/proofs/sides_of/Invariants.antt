use Rattle.std.proofs.Common.{◌≡◌, ◌-◌, [], ◌∷◌, ◌++◌, take, drop, map, replicate}
use Rattle.corners.proofs.Around.{pairs}
use Rattle.inside.specs.Inside.{side_of, no_side}
use Rattle.inside.proofs.sides_of.Given as goal

abbrev pub invariant-loop-i : goal.invariant-loop-i
invariant-loop-i l =
    (drop l.i (pairs l.first (l.rest ++ l.first ∷ [])) ≡ pairs l.a (drop l.i l.rest ++ l.first ∷ []))
    × (l.sides ≡ take l.i (map side_of (pairs l.first (l.rest ++ l.first ∷ []))) ++ replicate (16 - l.i) no_side)
