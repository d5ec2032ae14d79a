-- The corners of a frame: how many, which one at a place, and in an array of sixteen. Assumes nothing.
use Prim.Native.Nat.{ℕ, zero, suc, ◌+◌, ◌*◌, ◌-◌, ◌<◌, min}
use mathlib.Core.Path.{◌≡◌, ◌∙◌, ap, refl}
use mathlib.Core.List.{List, ◌++◌, append-nil}
use mathlib.Core.Bool.{Bool, true, false}
use native.Mathlib.Omega.{arith}
use lib.Dec.{leb}
use lib.ListN.{length, get_or, take, replicate}
use lib.Seq.{take_at, take_all}
use borrow.Author.Tests.{leb-true, leb-false}
use Rattle.wire.specs.Fields.{u8_at}
use Rattle.types.specs.declared.Point2.{Point2}
use Rattle.geometry.specs.Polygon.{zero_point}
use Rattle.frame_fence.specs.FenceFrame.{point_at, corners_at, corner_array, corners_sent}

pub length-corners : (s : List ℕ) (i n : ℕ) → length (corners_at s i n) ≡ n
unfolding corners_at
length-corners s i zero = refl
length-corners s i (suc n) = ap suc (length-corners s (i + 8) n)

pub corner_at : (s : List ℕ) (i n k : ℕ) (d : Point2) → k < n → get_or (corners_at s i n) k d ≡ point_at s (i + 8 * k)
unfolding corners_at
corner_at s i zero k d h = absurd (omega arith)
corner_at s i (suc n) zero d h = ap (point_at s) (omega arith)
corner_at s i (suc n) (suc k) d h = corner_at s (i + 8) n k d (omega arith) ∙ ap (point_at s) (omega arith)

pub back : (n : ℕ) (l : List Point2) → length l ≡ min n 16 → take n (l ++ replicate (16 - length l) zero_point) ≡ l
back n l e = cases (leb n 16) refl where
  cases : (b : Bool) → leb n 16 ≡ b → take n (l ++ replicate (16 - length l) zero_point) ≡ l
  cases true h = let k = leb-true n 16 h in take_at l (replicate (16 - length l) zero_point) n (omega arith)
  cases false h =
      let k = leb-false n 16 h in
      let z : 16 - length l ≡ 0 = omega arith in
      rw (z, append-nil l) (take_all n l (omega arith))

-- the corners that were sent come out of the array again
pub corners_back : (s : List ℕ) → take (u8_at s 4) (corner_array (corners_sent s)) ≡ corners_sent s
unfolding corners_sent corner_array
corners_back s = back (u8_at s 4) (corners_at s 13 (min (u8_at s 4) 16)) (length-corners s 13 (min (u8_at s 4) 16))
