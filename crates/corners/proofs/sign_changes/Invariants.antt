use Rattle.std.proofs.Common.{◌≡◌, ◌≤◌, [], ◌∷◌, ◌++◌, drop, None}
use Rattle.corners.proofs.Around.{pairs}
use Rattle.corners.proofs.OnceRound.{joins, sides_at_least}
use Rattle.corners.proofs.sign_changes.Given as goal

abbrev pub invariant-loop-b : goal.invariant-loop-b
invariant-loop-b l =
    (sides_at_least l.seen ≤ l.b-index)
    × (joins l.seen (pairs l.a (drop l.b-index l.rest ++ l.first ∷ [])) ≡ joins None (pairs l.first (l.rest ++ l.first ∷ [])))
