-- The corners of a fence: their order, every −0 as 0, and what is written. Assumes nothing.
use Rattle.std.specs.Prelude.{◌-◌, ◌≡◌, Bool, true, false, ◌&&◌, ◌||◌, cond, List, [], ◌∷◌, ◌++◌, map, length, replicate, Float}
use Rattle.std.specs.Float.{binary32}
use Rattle.std.specs.Float.Ieee.{fits, lt, eq}
use Rattle.rings.specs.Ring.{SameRing}
use Rattle.rings.specs.Spelling.{All, spelled}
use Rattle.types.specs.declared.Point2.{Point2}
use Rattle.float32.specs.Binary32.{zero_f}
use Rattle.float32.specs.Libm.{is_finite}
use Rattle.std.specs.List.{list_any}
use Rattle.corners.specs.Ring.{tails}
use Rattle.corners.specs.Acceptance.{same_point, recurs}
use Rattle.geometry.specs.Polygon.{zero_point}
use Rattle.rings.specs.declared.Corners.{Corners}

-- less north, then less east; numbers as numbers, so −0 is 0
unfoldable pub before : Point2 → Point2 → Bool
before p q = lt p.n q.n || (eq p.n q.n && lt p.e q.e)

-- "every −0 as 0"
unfoldable pub plain_number : Float → Float
plain_number x = cond (eq x zero_f) zero_f x

abbrev pub plain : Point2 → Point2
plain p = record { n = plain_number p.n; e = plain_number p.e }

-- the corners as written
abbrev pub written : List Point2 → List Point2
written l = spelled before (map plain l)

-- of the tests that accept corners, the two that matter here: each is finite, and none is again among those after it
pub record Accepted (l : List Point2) : Type 0 where
  pub finite : All (λ p. (is_finite p.n ≡ true) × (is_finite p.e ≡ true)) l
  pub apart : list_any recurs (tails l) ≡ false

-- the corners were read from bytes
abbrev pub Read : List Point2 → Type 0
Read l = All (λ p. (fits binary32 p.n ≡ true) × (fits binary32 p.e ≡ true)) l

-- the same numbers, corner by corner
abbrev pub Alike : List Point2 → List Point2 → Type 0
Alike [] [] = Unit {0}
Alike [] (q ∷ m) = ⊥
Alike (p ∷ l) [] = ⊥
Alike (p ∷ l) (q ∷ m) = (same_point p q ≡ true) × Alike l m

-- "the same .. ring of corners, in any rotation or direction": l turned and reversed is m, numbers compared as numbers
pub record SameFence (l m : List Point2) : Type 0 where
  pub way : List Point2
  pub ring : SameRing l way
  pub alike : Alike way m

-- the corners of a ring; unused places are zero
abbrev pub held : List Point2 → Corners
held l = record { verts = l ++ replicate (16 - length l) zero_point; len = length l }
