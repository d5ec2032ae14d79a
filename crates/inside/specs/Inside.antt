-- Document 02, L9: "an inside test over an accepted polygon that stops at the first side with negative distance and reports the sides it read".
-- Assumes nothing.
use Rattle.std.specs.Prelude.{ℕ, ◌+◌, ◌<◌, ◌≤◌, Bool, true, false, ◌||◌, cond, List, [], ◌∷◌, map, ◌⊎◌, ◌≡◌, ltb, Float, length, get_or}
use Rattle.std.specs.Float.{nan, binary32}
use Rattle.std.specs.Float.Ieee.{sub, mul, div, lt}
use Rattle.float32.specs.Binary32.{zero_f}
use Rattle.types.specs.declared.Point2.{Point2}
use Rattle.corners.specs.Ring.{sides}
use Rattle.geometry.specs.Polygon.{zero_point}
use Rattle.geometry.specs.Distance.{least_length, side_length, edge_signed_distance, contains}
use Rattle.inside.specs.declared.Inside.{Inside}
use Rattle.inside.specs.declared.Side.{Side}
use Rattle.inside.specs.declared.Sides.{Sides}

-- the sides of a list, of which k were read before it
abbrev pub stop_from : {A : Type 0} → (A → Float) → ℕ → List A → Inside
stop_from f k [] = record { yes = true; read = k }
stop_from f k (s ∷ ss) = cond (lt (f s) zero_f) (record { yes = false; read = k + 1 }) (stop_from f (k + 1) ss)

-- an accepted polygon has three corners or more
unfoldable pub inside : List Point2 → Point2 → Inside
inside l p = cond (ltb (length l) 3) (record { yes = false; read = 0 }) (stop_from (edge_signed_distance p) 0 (sides l))

-- ---- the same by what is worked out once for all points

-- a side: its first corner, the way from there to the next, its length
abbrev pub side_of : Point2 × Point2 → Side
side_of s = record { from = s.0; north = sub binary32 s.1.n s.0.n; east = sub binary32 s.1.e s.0.e; len = side_length s }

-- what stands in an unused place
abbrev pub no_side : Side
no_side = record { from = zero_point; north = zero_f; east = zero_f; len = zero_f }

-- whether a side is below 1e-6, which gives −1
abbrev pub is_short : Side → Bool
is_short s = lt s.len least_length

-- and whether the distance from it is negative where it is not
unfoldable pub is_negative : Point2 → Side → Bool
is_negative p s =
    lt (div binary32 (sub binary32 (mul binary32 s.north (sub binary32 p.e s.from.e)) (mul binary32 s.east (sub binary32 p.n s.from.n))) s.len) zero_f

-- the first element that meets a test, of a list that k stand before; or what is answered where none does
abbrev pub stop_at : {A : Type 0} → (A → Bool) → Inside → ℕ → List A → Inside
stop_at t none k [] = none
stop_at t none k (a ∷ l) = cond (t a) (record { yes = false; read = k + 1 }) (stop_at t none (k + 1) l)

-- the test by the sides
abbrev pub inside_by : List Side → Point2 → Inside
inside_by l p =
    cond (ltb (length l) 3) (record { yes = false; read = 0 })
    (stop_at (λ s. is_short s || is_negative p s) (record { yes = true; read = length l }) 0 l)

-- and by the sides before the first that is short
abbrev pub answer : Sides → Point2 → Inside
answer s p = stop_at (is_negative p) s.otherwise 0 s.long.now

-- ---- the same without the loop

-- "That number is the first such side's position counted from 1"
pub record StopsAt (distances : List Float) (r : Inside) : Type 0 where
  pub j : ℕ
  pub number : j < length distances
  pub read : r.read ≡ j + 1
  pub negative : lt (get_or distances j nan) zero_f ≡ true
  pub first : (i : ℕ) → i < j → lt (get_or distances i nan) zero_f ≡ false

-- "or all sides where none is negative"
pub record ReadsAll (distances : List Float) (r : Inside) : Type 0 where
  pub read : r.read ≡ length distances
  pub none : (i : ℕ) → i < length distances → lt (get_or distances i nan) zero_f ≡ false

-- of every ring of 3 to 16 corners and every point, whatever its floats
pub record InsideClaim : Type 1 where
  -- "Its yes agrees with `contains` for every float pattern of the point."
  pub agrees : (l : List Point2) (p : Point2) → 3 ≤ length l → (inside l p).yes ≡ contains l p
  pub sides_read :
      (l : List Point2) (p : Point2) → 3 ≤ length l
      → StopsAt (map (edge_signed_distance p) (sides l)) (inside l p) ⊎ ReadsAll (map (edge_signed_distance p) (sides l)) (inside l p)
  -- "it never exceeds 16"
  pub most : (l : List Point2) (p : Point2) → length l ≤ 16 → (inside l p).read ≤ 16
