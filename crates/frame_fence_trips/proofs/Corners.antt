-- Corners as cells: of a frame's bytes, and back. Assumes nothing.
use Prim.Native.Nat.{ℕ, zero, suc, ◌+◌, ◌*◌}
use mathlib.Core.Path.{◌≡◌, ◌∙◌, ap, refl, sym}
use mathlib.Core.List.{List, [], ◌∷◌, ◌++◌}
use native.Mathlib.Nat.{zero-add}
use native.Mathlib.Omega.{arith}
use lib.ListN.{length}
use lib.Seq.{get_or-append-add}
use Rattle.types.specs.declared.Point2.{Point2}
use Rattle.wire.specs.Fields.{Bytes, u8_at, f32_at}
use Rattle.wire.specs.Cell.{Cell, f32, Sort, F32, sorts_of, cells_at, bytes_of, Within, FlagsValid, nan_rewritten, widths}
use Rattle.wire.proofs.Cells.{cells_back, cells_bytes, same_cells}
use Rattle.frame_fence.specs.FenceFrame.{point_at, corners_at, corner_cells}
use Rattle.frame_fence.proofs.Corners.{length-corners}

-- two floats for each corner
abbrev corner_sorts : ℕ → List Sort
corner_sorts zero = []
corner_sorts (suc n) = F32 ∷ F32 ∷ corner_sorts n

sorts : (l : List Point2) → sorts_of (corner_cells l) ≡ corner_sorts (length l)
unfolding corner_cells
sorts [] = refl
sorts (p ∷ l) = ap (λ (r : List Sort). F32 ∷ F32 ∷ r) (sorts l)

pub corners_wide : (l : List Point2) → widths (sorts_of (corner_cells l)) ≡ 8 * length l
unfolding corner_cells
corners_wide [] = refl
corners_wide (p ∷ l) = let h = corners_wide l in omega arith

-- the cells of the corners read are those of the bytes
read_cells : (s : List ℕ) (i n : ℕ) → corner_cells (corners_at s i n) ≡ cells_at (corner_sorts n) s i
unfolding corners_at point_at corner_cells
read_cells s i zero = refl
read_cells s i (suc n) =
    let e : i + 8 ≡ i + 4 + 4 = omega arith in
    ap (λ (r : List Cell). f32 (f32_at s i) ∷ f32 (f32_at s (i + 4)) ∷ r) (read_cells s (i + 8) n ∙ ap (cells_at (corner_sorts n) s) e)

no_flags : (n : ℕ) (s : List ℕ) (i : ℕ) → FlagsValid (corner_sorts n) s i
no_flags zero s i = tt
no_flags (suc n) s i = no_flags n s (i + 4 + 4)

-- the bytes, their corners, the bytes
pub corners_bytes : (s : List ℕ) (i n : ℕ) → Bytes s → bytes_of (corner_cells (corners_at s i n)) ≡ nan_rewritten (sorts_of (corner_cells (corners_at s i n))) s i
corners_bytes s i n b =
    ap bytes_of (read_cells s i n)
    ∙ cells_bytes (corner_sorts n) s i b (no_flags n s i)
    ∙ ap (λ (ks : List Sort). nan_rewritten ks s i) (sym (sorts (corners_at s i n) ∙ ap corner_sorts (length-corners s i n)))

-- corners with the same cells are the same
same_corners : (l m : List Point2) → corner_cells l ≡ corner_cells m → l ≡ m
unfolding corner_cells
same_corners [] [] e = refl
same_corners [] (q ∷ m) e = let z : ◌≡◌ {A = ℕ} 0 1 = cc in absurd (omega arith)
same_corners (p ∷ l) [] e = let z : ◌≡◌ {A = ℕ} 0 1 = cc in absurd (omega arith)
same_corners (p ∷ l) (q ∷ m) e =
    let n : p.n ≡ q.n = cc in
    let f : p.e ≡ q.e = cc in
    let r : corner_cells l ≡ corner_cells m = cc in
    λ j. record { n = n j; e = f j } ∷ same_corners l m r j

-- the corners, their bytes after others, the corners
pub corners_read : (pre : List ℕ) (l : List Point2) → Within (corner_cells l) → corners_at (pre ++ bytes_of (corner_cells l)) (length pre) (length l) ≡ l
unfolding u8_at
corners_read pre l h =
    let b = bytes_of (corner_cells l) in
    same_corners (corners_at (pre ++ b) (length pre) (length l)) l
    (read_cells (pre ++ b) (length pre) (length l)
    ∙ same_cells (corner_sorts (length l)) (pre ++ b) (length pre) b 0 (λ k. get_or-append-add pre b k 0 ∙ ap (u8_at b) (sym (zero-add k)))
    ∙ ap (λ (ks : List Sort). cells_at ks b 0) (sym (sorts l))
    ∙ cells_back (corner_cells l) h)
