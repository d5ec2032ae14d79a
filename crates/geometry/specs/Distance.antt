-- A polygon's ring of corners, and a point's distance from its sides. The quotations are of document 01's paragraph on geometry. Assumes nothing.
use Rattle.std.specs.Prelude.{ℕ, ◌+◌, ◌-◌, Bool, false, cond, ltb, length, take, replicate, slice_get, Float, Option}
use mathlib.Core.List.{List, [], ◌∷◌, ◌++◌, map, foldl}
use Rattle.std.specs.Float.{inf, binary32}
use Rattle.std.specs.Float.Ieee.{add, sub, mul, div, neg, lt, le, of_bits}
use Rattle.float32.specs.Binary32.{zero_f}
use Rattle.float32.specs.Sqrt.{square_root}
use Rattle.types.specs.declared.Point2.{Point2}
use Rattle.corners.specs.Ring.{beside, sides}
use Rattle.geometry.specs.declared.ConvexPolygon.{ConvexPolygon}
use Rattle.geometry.specs.declared.SideLengths.{SideLengths}
use Rattle.geometry.specs.declared.FenceDistance.{FenceDistance}

abbrev pub minus_one : Float
minus_one = neg (of_bits binary32 0x3F80_0000)

-- 0.000001: proofs/Constants.antt has that it is the nearest binary32 number
abbrev pub least_length : Float
least_length = of_bits binary32 0x3586_37BD

-- the corners that a polygon holds
abbrev pub ring_of : ConvexPolygon → List Point2
ring_of p = take p.len p.verts

-- The Rust's vertex, which panics from the place 16 on.
unfoldable pub vertex : ConvexPolygon → ℕ → Option Point2
vertex p i = slice_get p.verts i

unfoldable pub side_length : Point2 × Point2 → Float
side_length s =
    let ab_n = sub binary32 s.1.n s.0.n in
    let ab_e = sub binary32 s.1.e s.0.e in
    square_root (add binary32 (mul binary32 ab_n ab_n) (mul binary32 ab_e ab_e))

-- each side's length in order, and 0 in the unused places
abbrev pub side_lengths : List Point2 → SideLengths
side_lengths l = record { m = map side_length (sides l) ++ replicate (16 - length l) zero_f }

-- "cross product by side length; below 1e-6 length gives −1": of a side with its length
unfoldable pub edge_signed_distance_by : Point2 → (Point2 × Point2) × Float → Float
edge_signed_distance_by p t =
    let a = t.0.0 in
    let b = t.0.1 in
    let len = t.1 in
    let ab_n = sub binary32 b.n a.n in
    let ab_e = sub binary32 b.e a.e in
    let ap_n = sub binary32 p.n a.n in
    let ap_e = sub binary32 p.e a.e in
    cond (lt len least_length) minus_one (div binary32 (sub binary32 (mul binary32 ab_n ap_e) (mul binary32 ab_e ap_n)) len)

abbrev pub edge_signed_distance : Point2 → Point2 × Point2 → Float
edge_signed_distance p s = edge_signed_distance_by p (s, side_length s)

-- the lesser of two distances; a NaN is never less
abbrev pub nearer : Float → Float → Float
nearer m d = cond (lt d m) d m

-- the least of m and the distances of a list of sides
abbrev pub least : {A : Type 0} → (A → Float) → Float → List A → Float
least f = foldl (λ m s. nearer m (f s))

-- "Distance is the least over sides of cross product by side length"; without three corners it is −1
unfoldable pub signed_distance : List Point2 → Point2 → Float
signed_distance l p = cond (ltb (length l) 3) minus_one (least (edge_signed_distance p) (inf false) (sides l))

-- "Inside means at least 0."
unfoldable pub contains : List Point2 → Point2 → Bool
contains l p = le zero_f (signed_distance l p)

-- ---- document 02, L1: "The fence distance now comes with the number of the side that gave it."

-- "255 where no side's distance is below infinity"
abbrev pub no_side : Float → FenceDistance
no_side m = record { m = m; side = 255 }

-- "At equal distances the lower number is given": side k, of distance x, has to be nearer; a NaN never is
abbrev pub nearer_side : FenceDistance → ℕ → Float → FenceDistance
nearer_side d k x = cond (lt x d.m) (record { m = x; side = k }) d

-- the nearest of d and the sides of a list, which are numbered from k on
abbrev pub nearest_from : {A : Type 0} → (A → Float) → ℕ → FenceDistance → List A → FenceDistance
nearest_from f k d [] = d
nearest_from f k d (s ∷ ss) = nearest_from f (k + 1) (nearer_side d k (f s)) ss

-- "Sides count from 0 in held order"; without three corners there is no side
unfoldable pub nearest : List Point2 → Point2 → FenceDistance
nearest l p = cond (ltb (length l) 3) (no_side minus_one) (nearest_from (edge_signed_distance p) 0 (no_side (inf false)) (sides l))

-- the same by lengths that are given, whatever they are
unfoldable pub nearest_by : List Point2 → List Float → Point2 → FenceDistance
nearest_by l ms p = cond (ltb (length l) 3) (no_side minus_one) (nearest_from (edge_signed_distance_by p) 0 (no_side (inf false)) (beside (sides l) ms))
