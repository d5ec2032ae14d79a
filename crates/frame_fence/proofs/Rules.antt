-- The fence rules on a frame that is not refused, and the frames whose count is out of range or missing. Assumes nothing.
use Rattle.wire.specs.declared.FrameError.{FrameError}
use Rattle.std.specs.Prelude.{Ok, Err}
use Prim.Native.Nat.{ℕ, ◌+◌, ◌*◌, ◌<◌, ◌≤◌}
use mathlib.Core.Path.{◌≡◌, refl}
use mathlib.Core.Bool.{Bool, true, false}
use mathlib.Core.List.{List}
use native.Mathlib.Omega.{arith}
use lib.ListN.{length}
use borrow.Author.Tests.{eq-eqb, ne_eqb, le-ltb}
use Rattle.wire.specs.Fields.{u8_at, u16_at, f32_at}
use Rattle.wire.specs.Frame.{check_frame}
use Rattle.corners.specs.declared.FenceError.{FenceError}
use Rattle.geometry.specs.Polygon.{polygon_new}
use Rattle.corners.proofs.Callers.{too_few, too_many}
use Rattle.types.specs.declared.Point2.{Point2}
use Rattle.frame_fence.specs.FenceFrame.{fence_kind, asks_once_round, corners_sent, check_fence, fence_sent, read_fence, fence_rules, fence_of}
use Rattle.frame_fence.proofs.Corners.{corners_back}

-- a frame that is refused gives its refusal
pub refused : (s : List ℕ) (e : FrameError) → check_fence s ≡ Err e → read_fence s ≡ Err e
unfolding read_fence
refused s e h = rw h refl

module _ (s : List ℕ) (h : check_fence s ≡ Ok tt) where
  -- what is read of one that is not
  pub read : read_fence s ≡ Ok (fence_sent (asks_once_round s) (u8_at s 4) (f32_at s 5) (f32_at s 9) (corners_sent s))
  unfolding read_fence
  read = rw h refl

-- the rules judge the count, the altitudes and the corners as sent
pub rules : (s : List ℕ) → fence_of (fence_sent (asks_once_round s) (u8_at s 4) (f32_at s 5) (f32_at s 9) (corners_sent s)) ≡ fence_rules (asks_once_round s) (u8_at s 4) (f32_at s 5) (f32_at s 9) (corners_sent s)
unfolding fence_of
rules s = rw (corners_back s) refl

-- a count of 17 to 255 with the matching length is refused by the fence rules: 11; so is one of 0 to 2: 10
pub many_corners : (s : List ℕ) → 16 < u8_at s 4 → fence_rules (asks_once_round s) (u8_at s 4) (f32_at s 5) (f32_at s 9) (corners_sent s) ≡ Err FenceError.TooManyVertices
unfolding fence_rules polygon_new
many_corners s k = rw (too_many (asks_once_round s) (u8_at s 4) (corners_sent s) k) refl

pub few_corners : (s : List ℕ) → u8_at s 4 < 3 → fence_rules (asks_once_round s) (u8_at s 4) (f32_at s 5) (f32_at s 9) (corners_sent s) ≡ Err FenceError.TooFewVertices
unfolding fence_rules polygon_new
few_corners s k = rw (too_few (asks_once_round s) (u8_at s 4) (corners_sent s) k) refl

-- more corners than an array has make no polygon
pub new_many : (once : Bool) (n : ℕ) (l : List Point2) → 16 < n → polygon_new once n l ≡ Err FenceError.TooManyVertices
unfolding polygon_new
new_many once n l h = rw (too_many once n l h) refl

-- what the kind asks
pub kind_asks : (once : Bool) (s : List ℕ) → u16_at s 2 ≡ fence_kind once → asks_once_round s ≡ once
unfolding asks_once_round
kind_asks true s k = eq-eqb (u16_at s 2) 8 k
kind_asks false s k = ne_eqb (u16_at s 2) 8 (λ e. omega arith)

-- "A kind 2 body without its count byte is 3." So is one of kind 8.
pub no_count_byte : (once : Bool) (s : List ℕ) → 4 ≤ length s → u16_at s 0 ≡ 2 → u16_at s 2 ≡ fence_kind once → check_fence s ≡ Err FrameError.WrongLength
unfolding check_fence check_frame
no_count_byte once s h n k =
    let m = 11 + 8 * u8_at s 4 in
    simp (
      kind_asks once s k,
      le-ltb (length s) 2 (omega arith),
      le-ltb (length s) (2 + u16_at s 0) (omega arith),
      le-ltb (u16_at s 0) 2 (omega arith),
      eq-eqb (u16_at s 2) (fence_kind once) k,
      ne_eqb (u16_at s 0) m (λ e. omega arith),
    )
