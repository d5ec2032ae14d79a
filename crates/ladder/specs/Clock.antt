-- Document 01, 'Run and record': what the clock readings of a record say. Lists have the latest reading first. Assumes nothing.
use Rattle.std.specs.Prelude.{ℕ, suc, ◌%◌, Bool, true, false, ◌&&◌, cond, List, [], ◌∷◌, eqb, Option, Some, None}
use Rattle.time.specs.Time.{Clock, age}

abbrev pub absent : Option ℕ → Bool
absent None = true
absent (Some a) = false

-- "no age against that of the last sound step .. ; the first is sound"
abbrev pub no_age_against : Clock → Option ℕ → ℕ → Bool
no_age_against clock None now = false
no_age_against clock (Some last) now = absent (age clock now last)

-- the reading of the last sound step
unfoldable pub last_sound : Clock → List ℕ → Option ℕ
last_sound clock [] = None
last_sound clock (now ∷ earlier) = cond (no_age_against clock (last_sound clock earlier) now) (last_sound clock earlier) (Some now)

-- the term 'faulted': "A step is faulted where its clock reading has no age against that of the last sound step, otherwise sound"
abbrev pub faulted : Clock → ℕ → List ℕ → Bool
faulted clock now earlier = no_age_against clock (last_sound clock earlier) now

-- how many faulted steps stand in the unbroken row that ends at the latest
unfoldable pub faulted_row : Clock → List ℕ → ℕ
faulted_row clock [] = 0
faulted_row clock (now ∷ earlier) = cond (faulted clock now earlier) (suc (faulted_row clock earlier)) 0

-- "third, sixth and so on of an unbroken row of faulted steps"
abbrev pub third : Clock → ℕ → List ℕ → Bool
third clock now earlier = faulted clock now earlier && eqb (faulted_row clock (now ∷ earlier) % 3) 0
