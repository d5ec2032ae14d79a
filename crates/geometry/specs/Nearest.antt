-- Document 02, L1: what the distance and its side are, without the way they are found. Assumes nothing.
use Rattle.std.specs.Prelude.{ℕ, ◌<◌, ◌≤◌, true, false, List, map, ◌⊎◌, ◌≡◌, length, get_or, Float}
use Rattle.std.specs.Float.{nan, inf}
use Rattle.std.specs.Float.Ieee.{lt, le}
use Rattle.types.specs.declared.Point2.{Point2}
use Rattle.corners.specs.Ring.{sides}
use Rattle.geometry.specs.declared.FenceDistance.{FenceDistance}
use Rattle.geometry.specs.Distance.{edge_signed_distance, no_side, nearest}

-- "255 where no side's distance is below infinity"
pub record ByNone (distances : List Float) (d : FenceDistance) : Type 0 where
  pub is : d ≡ no_side (inf false)
  pub none_below : (i : ℕ) → i < length distances → lt (get_or distances i nan) (inf false) ≡ false

-- "the number of the side that gave it": its distance is the answer, below infinity, and no side's is less.
-- "At equal distances the lower number is given": every side of a lower number is more, or a NaN.
pub record BySide (distances : List Float) (d : FenceDistance) : Type 0 where
  pub number : d.side < length distances
  pub is : d.m ≡ get_or distances d.side nan
  pub below : lt d.m (inf false) ≡ true
  pub none_less_lem : (i : ℕ) → i < length distances → lt (get_or distances i nan) d.m ≡ false
  pub lower_more : (i : ℕ) → i < d.side → le (get_or distances i nan) d.m ≡ false

-- of every ring and every point, NaNs and infinities among its numbers
abbrev pub NearestClaim : Type 0
NearestClaim =
    (l : List Point2) (p : Point2) → 3 ≤ length l
    → ByNone (map (edge_signed_distance p) (sides l)) (nearest l p) ⊎ BySide (map (edge_signed_distance p) (sides l)) (nearest l p)
