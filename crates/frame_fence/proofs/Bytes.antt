-- The bytes of corners: how many, one corner more, and the size of the frame. Assumes nothing.
use Prim.Native.Nat.{ℕ, ◌+◌, ◌*◌, ◌≤◌, ◌<◌}
use mathlib.Core.Path.{◌≡◌, ◌∙◌, ap, refl, sym}
use mathlib.Core.Bool.{Bool}
use mathlib.Core.List.{List, [], ◌∷◌, ◌++◌}
use native.Mathlib.Numerals.{add-one}
use native.Mathlib.Omega.{arith}
use lib.ListN.{length, get_or, take}
use lib.Seq.{sets, take-suc, length-take-le}
use lib.Ieee.{Float}
use Rattle.wire.specs.Fields.{le8, le_bytes, le16, le32, le_f32}
use Rattle.wire.specs.Cell.{bytes_of}
use Rattle.wire.specs.Frame.{frame_head}
use Rattle.wire.proofs.Stores.{joined}
use Rattle.types.specs.declared.Point2.{Point2}
use Rattle.frame_fence.specs.FenceFrame.{point_cells, corner_cells, fence_cells, fence_frame}

abbrev pub corner_bytes : List Point2 → List ℕ
corner_bytes l = bytes_of (corner_cells l)

pub corners_size : (l : List Point2) → length (corner_bytes l) ≡ 8 * length l
unfolding corner_cells le_f32 le32 le_bytes
corners_size [] = refl
corners_size (p ∷ l) = let h = corners_size l in omega arith

corners_snoc : (l : List Point2) (p : Point2) → corner_bytes (l ++ p ∷ []) ≡ corner_bytes l ++ bytes_of (point_cells p)
unfolding corner_cells le_f32 le32 le_bytes
corners_snoc [] p = refl
corners_snoc (q ∷ l) p = ap (λ (r : List ℕ). le_f32 q.n ++ (le_f32 q.e ++ r)) (corners_snoc l p)

-- a turn of a loop that writes corners
pub next_corner : {m r : List ℕ} (s : List ℕ) (l : List Point2) (i : ℕ) (d : Point2) → i < length l → m ≡ sets s 13 (corner_bytes (take i l))
    → r ≡ sets m (13 + 8 * i) (bytes_of (point_cells (get_or l i d))) → r ≡ sets s 13 (corner_bytes (take (i + 1) l))
next_corner {m} s l i d h e f =
    let b = bytes_of (point_cells (get_or l i d)) in
    let n : 8 * i ≡ length (corner_bytes (take i l)) = ap (λ (k : ℕ). 8 * k) (sym (length-take-le i l (omega arith))) ∙ sym (corners_size (take i l)) in
    joined s 13 (corner_bytes (take i l)) b e (f ∙ ap (λ (k : ℕ). sets m (13 + k) b) n)
    ∙ ap (sets s 13) (sym (ap (λ (k : ℕ). corner_bytes (take k l)) (add-one i) ∙ ap corner_bytes (take-suc l i d h) ∙ corners_snoc (take i l) (get_or l i d)))

pub size : (once : Bool) (n : ℕ) (x y : Float) (l : List Point2) → n ≤ length l → length (fence_frame once n x y l) ≡ 13 + 8 * n
unfolding fence_frame fence_cells frame_head le8 le_bytes le16 le32 le_f32
size once n x y l h = let e = corners_size (take n l) in let f = length-take-le n l h in omega arith
