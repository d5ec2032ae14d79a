-- Document 02, L5: "Going round the sides, the sign of the north step must change exactly twice; zero steps are skipped and the last side is followed by the
-- first." Assumes nothing.
use Rattle.std.specs.Prelude.{ℕ, ◌+◌, cond, Option, Some, None}
use mathlib.Core.List.{List, [], ◌∷◌, map, foldl}
use Rattle.std.specs.Float.Ieee.{lt}
use Rattle.types.specs.declared.Point2.{Point2}
use Rattle.corners.specs.Ring.{sides}
use Rattle.corners.specs.declared.Heading.{Heading}
use Rattle.corners.specs.declared.Heading.TheVariants.{North, South}
use Rattle.corners.specs.declared.Headings.{Headings}

-- "the sign of the north step" of a side, none of a zero step
unfoldable pub north_sign : Point2 × Point2 → Option Heading
north_sign s = cond (lt s.0.n s.1.n) (Some North) (cond (lt s.1.n s.0.n) (Some South) None)

-- "zero steps are skipped"
abbrev pub nonzero : List (Option Heading) → List Heading
nonzero [] = []
nonzero (None ∷ l) = nonzero l
nonzero (Some g ∷ l) = g ∷ nonzero l

-- 1 where two signs differ, a change; else 0
abbrev pub differ : Heading → Heading → ℕ
differ North North = 0
differ North South = 1
differ South North = 1
differ South South = 0

-- how often two neighbours differ
abbrev pub tally : ℕ → List (Heading × Heading) → ℕ
tally = foldl (λ k t. k + differ t.0 t.1)

-- how often the sign changes: between each sign and the next, "the last side is followed by the first"
unfoldable pub sign_changes : List Point2 → ℕ
sign_changes l = tally 0 (sides (nonzero (map north_sign (sides l))))

-- what the code keeps of the signs on its way round, and the changes in the end
abbrev pub join : Option Headings → Option Heading → Option Headings
join s None = s
join None (Some g) = Some (record { first = g; last = g; changes = 0 })
join (Some s) (Some g) = Some (record { first = s.first; last = g; changes = s.changes + differ s.last g })

abbrev pub closed : Option Headings → ℕ
closed None = 0
closed (Some s) = s.changes + differ s.last s.first
