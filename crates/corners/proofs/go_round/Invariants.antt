use Rattle.std.proofs.Common.{◌≡◌, [], ◌∷◌, ◌++◌, drop}
use Rattle.corners.specs.Acceptance.{first_fault, corner_fault}
use Rattle.corners.specs.Round.{no_turns}
use Rattle.corners.proofs.Around.{go}
use Rattle.corners.proofs.go_round.Given as goal

abbrev pub invariant-loop-c : goal.invariant-loop-c
invariant-loop-c l =
    (first_fault corner_fault (drop l.c-index l.rest) ≡ first_fault corner_fault (l.first ∷ l.second ∷ l.rest))
    × (go l.r l.a l.b (drop l.c-index l.rest ++ l.first ∷ l.second ∷ []) ≡ go no_turns l.first l.second (l.rest ++ l.first ∷ l.second ∷ []))
