-- `frame_fence::put_fence` meets its contract. The calls' contracts, one after the other, are a run of stores. Assumes nothing.
use Prim.Native.Nat.{ℕ, ◌+◌, ◌*◌}
use mathlib.Core.Path.{◌≡◌, ◌∙◌, refl}
use mathlib.Core.Bool.{Bool}
use mathlib.Core.List.{List, [], ◌∷◌}
use lib.ListN.{take}
use lib.Seq.{sets}
use lib.Ieee.{Float}
use Rattle.wire.specs.Fields.{le8, le_bytes, le16, le32, le_f32}
use Rattle.wire.specs.Frame.{frame_head}
use Rattle.wire.proofs.Stores.{Piece, put, after, done, into, ran}
use Rattle.types.specs.declared.Point2.{Point2}
use Rattle.frame_fence.specs.FenceFrame.{fence_kind, fence_cells, fence_frame}
use Rattle.frame_fence.proofs.Bytes.{corner_bytes}
use Rattle.frame_fence.proofs.put_fence.Goals as goal

abbrev pieces : ℕ → ℕ → ℕ → Float → Float → List Point2 → List Piece
pieces kind m n x y l =
    put 0 (frame_head kind m) ∷
    put 4 (le8 n) ∷
    put 5 (le_f32 x) ∷
    put 9 (le_f32 y) ∷
    put 13 (corner_bytes l) ∷
    []

flat : (s : List ℕ) (once : Bool) (n : ℕ) (x y : Float) (l : List Point2) → after s (pieces (fence_kind once) (11 + 8 * n) n x y (take n l)) ≡ sets s 0 (fence_frame once n x y l)
unfolding fence_frame fence_cells frame_head le8 le_bytes le16 le32 le_f32
flat s once n x y l = refl

pub returns : goal.returns
returns c =
    let q = c.args.r.now in
    let l = c.args.s.now in
    let kind = c.fence_kind in
    let due = c.length_due in
    let n = c.from in
    ran l (pieces kind.result due.result q.count q.min_alt_m q.max_alt_m (take n.result q.corners)) _
    (into c.put_head.ensures
    (into c.put_u8.ensures
    (into c.put_f32.ensures
    (into c.put_f32-2.ensures
    (into c.put_corners.ensures
    done)))))
    ∙ (λ j. after l (pieces (kind.ensures j) (due.ensures j) q.count q.min_alt_m q.max_alt_m (take (n.ensures j) q.corners)))
    ∙ flat l q.once_round q.count q.min_alt_m q.max_alt_m q.corners
