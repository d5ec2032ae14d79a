-- Both round trips of a fence frame, "For kind 2 this concerns the corners as sent, at most 16", and so for kind 8. A NaN is one value here, so value, bytes, value says nothing
-- of its bits; bytes, value, bytes gives the same bytes but for those of a NaN. Assumes nothing.
use Rattle.wire.specs.declared.FrameError.{FrameError}
use Rattle.std.specs.Result.{result_and}
use Rattle.std.specs.Prelude.{Result, Ok, Err, ⊤}
use Prim.Native.Nat.{ℕ, ◌+◌, ◌*◌, ◌<◌, ◌≤◌, ◌^◌, min}
use mathlib.Core.Path.{◌≡◌, ◌∙◌, ap, refl, sym, subst}
use mathlib.Core.List.{List, ◌∷◌, ◌++◌}
use mathlib.Core.Bool.{Bool, true, false}
use native.Mathlib.Omega.{arith}
use lib.Dec.{lit<}
use lib.ListN.{length, take}
use lib.Seq.{length-take-le}
use lib.Ieee.{Float}
use Rattle.types.specs.declared.Point2.{Point2}
use Rattle.wire.specs.Fields.{Bytes, u8_at, number_at, u16_at, u32_at, f32_at, le8, le_bytes, le16, le32, le_f32, bytes_from}
use Rattle.wire.specs.Cell.{Cell, bytes_of, Within, U16, sorts_of, NoNan, nan_rewritten, widths}
use Rattle.wire.specs.Frame.{frame_fault, frame_head, frame_number}
use Rattle.wire.proofs.Fields.{f32_back, u16_back}
use Rattle.wire.proofs.Head.{head_says, head_bytes, frame_sound, number_zero}
use Rattle.wire.proofs.Cells.{nan_free}
use Rattle.wire.proofs.Whole.{whole}
use Rattle.frame_fence.specs.declared.FenceRead.{FenceRead}
use Rattle.frame_fence.specs.FenceFrame.{fence_kind, corners_at, asks_once_round, check_fence, fence_fault, corners_sent, fence_sent, read_fence, fence_cells, fence_frame, frame_of}
use Rattle.frame_fence.proofs.Corners.{length-corners, corners_back}
use Rattle.frame_fence.proofs.Rules.{kind_asks}
use Rattle.frame_fence.proofs.Bytes.{corners_size}
use Rattle.frame_fence_trips.proofs.Corners.{corners_wide, corners_bytes, corners_read}

kind_fits : (once : Bool) → fence_kind once < 2 ^ 16
kind_fits true = lit< tt
kind_fits false = lit< tt

module _ (once : Bool) (n : ℕ) (x y : Float) (l : List Point2) (h : n ≤ 16) (k : length l ≡ 16) (g : Within (fence_cells n x y (take n l))) where
  long : length (take n l) ≡ n
  long = length-take-le n l (omega arith)

  pub count : u8_at (fence_frame once n x y l) 4 ≡ n
  unfolding fence_frame fence_cells frame_head u8_at le8 le_bytes le16 le32 le_f32
  count = refl

  pub kind : asks_once_round (fence_frame once n x y l) ≡ once
  unfolding fence_frame frame_head u8_at number_at u16_at le16 le_bytes
  kind = kind_asks once (fence_frame once n x y l) (u16_back (fence_kind once) (kind_fits once))

  pub head : fence_fault (fence_frame once n x y l) ≡ 0
  unfolding check_fence fence_frame fence_cells le8 le_bytes le32 le_f32
  head =
      let e = corners_size (take n l) in
      (λ j. frame_fault (fence_kind (kind j)) (11 + 8 * count j) (fence_frame once n x y l))
      ∙ frame_sound (fence_kind once) (11 + 8 * n) (bytes_of (fence_cells n x y (take n l))) (kind_fits once) (omega arith) (omega arith) (omega (arith, long))

  pub corners : corners_sent (fence_frame once n x y l) ≡ take n l
  unfolding corners_sent fence_frame fence_cells frame_head le8 le_bytes le16 le32 le_f32
  corners =
      let m : min n 16 ≡ length (take n l) = omega (arith, long) in
      ap (corners_at (fence_frame once n x y l) 13) (ap (λ (i : ℕ). min i 16) count ∙ m)
      ∙ corners_read (frame_head (fence_kind once) (11 + 8 * n) ++ (le8 n ++ (le_f32 x ++ le_f32 y))) (take n l) g.1.1.1

  pub altitudes : (f32_at (fence_frame once n x y l) 5 ≡ x) × (f32_at (fence_frame once n x y l) 9 ≡ y)
  unfolding fence_frame fence_cells frame_head u8_at number_at u32_at f32_at le8 le_bytes le16 le32 le_f32
  altitudes = (f32_back x g.1.0, f32_back y g.1.1.0)

  -- value, bytes, value: for each fence of at most 16 corners whose floats are binary32's
  pub value_back : read_fence (fence_frame once n x y l) ≡ Ok (fence_sent once n x y (take n l))
  unfolding read_fence
  value_back = simp (number_zero _ head, kind, count, altitudes.0, altitudes.1, corners)

-- the frame of what was read, part by part
parts : (s : List ℕ) → Bytes s → fence_fault s ≡ 0 → u8_at s 4 ≤ 16 →
    frame_head (fence_kind (asks_once_round s)) (11 + 8 * u8_at s 4) ++ bytes_of (fence_cells (u8_at s 4) (f32_at s 5) (f32_at s 9) (corners_sent s))
    ≡ nan_rewritten (U16 ∷ U16 ∷ sorts_of (fence_cells (u8_at s 4) (f32_at s 5) (f32_at s 9) (corners_sent s))) s 0
unfolding check_fence fence_cells corners_sent u8_at le8
parts s b f h =
    λ j.
    head_bytes (fence_kind (asks_once_round s)) (11 + 8 * u8_at s 4) s b f j
    ++ (le8 (u8_at s 4) ++ (le_f32 (f32_at s 5) ++ (le_f32 (f32_at s 9) ++ corners_bytes s 13 (min (u8_at s 4) 16) b j)))

-- the cells of a fence that was read
abbrev pub cells_of : FenceRead → List Cell
cells_of r = fence_cells r.count r.min_alt_m r.max_alt_m (take r.count r.corners)

module _ (s : List ℕ) (b : Bytes s) (r : FenceRead) (e : read_fence s ≡ Ok r) (h : r.count ≤ 16) where
  abbrev sent : FenceRead
  sent = fence_sent (asks_once_round s) (u8_at s 4) (f32_at s 5) (f32_at s 9) (corners_sent s)

  -- what an accepted frame says
  opened : (a : Result ⊤ FrameError) → result_and a (Ok sent) ≡ Ok r → (frame_number a ≡ 0) × (r ≡ sent)
  opened (Ok tt) q = let v : sent ≡ r = cc in (refl, sym v)
  opened (Err x) q = let z : ◌≡◌ {A = ℕ} 0 1 = cc in absurd (omega arith)

  both : (fence_fault s ≡ 0) × (r ≡ sent)
  unfolding read_fence
  both = opened (check_fence s) e

  sound : fence_fault s ≡ 0
  sound = both.0

  fence : r ≡ sent
  fence = both.1

  -- bytes, value, bytes: each NaN's bits become 7FC00000, the head is two fields of two bytes
  pub bytes_back : frame_of r ≡ nan_rewritten (U16 ∷ U16 ∷ sorts_of (cells_of r)) s 0
  unfolding fence_frame
  bytes_back = rw (fence, corners_back s) (parts s b sound (subst (λ (q : FenceRead). q.count ≤ 16) fence h))

  size : widths (U16 ∷ U16 ∷ sorts_of (cells_of r)) ≡ 13 + 8 * u8_at s 4
  unfolding fence_cells corners_sent
  size =
      let m : min (u8_at s 4) 16 ≡ u8_at s 4 = omega (arith, subst (λ (q : FenceRead). q.count ≤ 16) fence h) in
      rw (fence, corners_back s) (omega (arith, corners_wide (corners_sent s), length-corners s 13 (min (u8_at s 4) 16), m))

  -- the very bytes, where no float is a NaN
  pub bytes_same : NoNan (U16 ∷ U16 ∷ sorts_of (cells_of r)) s 0 → frame_of r ≡ s
  unfolding check_fence
  bytes_same n =
      bytes_back
      ∙ nan_free (U16 ∷ U16 ∷ sorts_of (cells_of r)) s 0 b n
      ∙ ap (bytes_from s 0) size
      ∙ whole 0 (13 + 8 * u8_at s 4) s ((head_says (fence_kind (asks_once_round s)) (11 + 8 * u8_at s 4) s sound).1.1 ∙ omega arith)
