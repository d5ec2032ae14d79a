-- The code's one pass counts the changes. Assumes nothing.
use Rattle.std.specs.Prelude.{Option, Some, None}
use mathlib.Core.Path.{◌≡◌, refl}
use Prim.Native.Nat.{ℕ, ◌+◌, ◌≤◌}
use native.Mathlib.Omega.{arith}
use mathlib.Core.List.{List, [], ◌∷◌, ◌++◌, map}
use Rattle.corners.specs.Ring.{beside, sides}
use Rattle.corners.specs.OnceRound.{north_sign, nonzero, differ, tally, sign_changes, join, closed}
use Rattle.types.specs.declared.Point2.{Point2}
use Rattle.corners.specs.declared.Heading.{Heading}
use Rattle.corners.specs.declared.Heading.TheVariants.{North, South}
use Rattle.corners.specs.declared.Headings.{Headings}

-- the signs of a list of sides, joined to what was seen
abbrev pub joins : Option Headings → List (Point2 × Point2) → Option Headings
joins s [] = s
joins s (t ∷ l) = joins (join s (north_sign t)) l

-- a list whose first sign is known, or none
by_sign : (a x : Heading) (c : ℕ) (g : Option Heading) (l : List (Point2 × Point2))
    → ((y : Heading) (k : ℕ) → closed (joins (Some (record { first = a; last = y; changes = k })) l) ≡ tally k (beside (y ∷ nonzero (map north_sign l)) (nonzero (map north_sign l) ++ a ∷ [])))
    → closed (joins (join (Some (record { first = a; last = x; changes = c })) g) l) ≡ tally c (beside (x ∷ nonzero (g ∷ map north_sign l)) (nonzero (g ∷ map north_sign l) ++ a ∷ []))
by_sign a x c None l rest = rest x c
by_sign a x c (Some y) l rest = rest y (c + differ x y)

run : (a x : Heading) (c : ℕ) (l : List (Point2 × Point2))
    → closed (joins (Some (record { first = a; last = x; changes = c })) l) ≡ tally c (beside (x ∷ nonzero (map north_sign l)) (nonzero (map north_sign l) ++ a ∷ []))
run a x c [] = refl
run a x c (t ∷ l) = by_sign a x c (north_sign t) l (λ y k. run a y k l)

by_first : (g : Option Heading) (l : List (Point2 × Point2)) → closed (joins None l) ≡ tally 0 (sides (nonzero (map north_sign l)))
    → closed (joins (join None g) l) ≡ tally 0 (sides (nonzero (g ∷ map north_sign l)))
by_first None l rest = rest
by_first (Some y) l rest = run y y 0 l

round : (l : List (Point2 × Point2)) → closed (joins None l) ≡ tally 0 (sides (nonzero (map north_sign l)))
round [] = refl
round (t ∷ l) = by_first (north_sign t) l (round l)

pub counted : (l : List Point2) → closed (joins None (sides l)) ≡ sign_changes l
unfolding sign_changes
counted l = round (sides l)

-- one more than the changes of what was seen
abbrev pub sides_at_least : Option Headings → ℕ
sides_at_least None = 0
sides_at_least (Some s) = s.changes + 1

differ_le : (a b : Heading) → differ a b ≤ 1
differ_le North North = omega arith
differ_le North South = omega arith
differ_le South North = omega arith
differ_le South South = omega arith

pub join_adds : (s : Option Headings) (g : Option Heading) → sides_at_least (join s g) ≤ sides_at_least s + 1
join_adds None None = omega arith
join_adds (Some s) None = omega arith
join_adds None (Some g) = omega arith
join_adds (Some s) (Some g) = omega (arith, differ_le s.last g)
