use Rattle.std.proofs.Common.{◌≡◌, [], ◌∷◌, ◌++◌, drop}
use mathlib.Core.List.{foldl}
use lib.Ieee.{binary32, add}
use Rattle.float32.specs.Binary32.{zero_f}
use Rattle.corners.specs.Acceptance.{area_term}
use Rattle.corners.proofs.Around.{pairs}
use Rattle.corners.proofs.area.Given as goal

abbrev pub invariant-loop-b : goal.invariant-loop-b
invariant-loop-b l =
    foldl (λ x s. add binary32 x (area_term s)) l.sum (pairs l.a (drop l.b-index l.rest ++ l.first ∷ [])) ≡ foldl (λ x s. add binary32 x (area_term s)) zero_f (pairs l.first (l.rest ++ l.first ∷ []))
