-- `frame_fence_trips::written_and_read` meets its contract. What is known of the floats of a fence comes from their type. Assumes nothing.
use Prim.Native.Nat.{ℕ, suc, zero, ◌+◌, ◌*◌, ◌≤◌}
use mathlib.Core.Path.{◌≡◌, ◌∙◌, ap, sym}
use mathlib.Core.Bool.{Bool}
use mathlib.Core.List.{List, [], ◌∷◌}
use native.Mathlib.Omega.{arith}
use lib.ListN.{length, take, drop, replicate}
use lib.Seq.{take_at}
use lib.Ieee.{Float}
use mir.Val.{Val}
use denote.Array.{each}
use denote.Floats.{passes}
use denote.Shadow.{shadow}
use borrow.Kind.Array.{e_struct}
use borrow.Author.Tests.{le-ltb}
use Rattle.types.specs.declared.Point2.{Point2}
use Rattle.types.specs.contracts.Point2.{the_type}
use Rattle.types.proofs.Point2.TheLaws.{the_laws, the_copy}
use Rattle.wire.specs.Cell.{Within}
use Rattle.std.specs.Prelude.{Result, Ok}
use Rattle.wire.specs.declared.FrameError.{FrameError}
use Rattle.wire.specs.Frame.{frame_written, check_room}
use Rattle.frame_fence.specs.declared.FenceRead.{FenceRead}
use Rattle.frame_fence.specs.FenceFrame.{corner_cells, fence_cells, fence_frame, fence_sent, frame_of, check_write, fence_written, read_fence}
use Rattle.frame_fence.proofs.Bytes.{size}
use Rattle.frame_fence_trips.proofs.Trips.{value_back}
use Rattle.frame_fence_trips.proofs.written_and_read.Goals as goal
use Rattle.frame_fence_trips.proofs.written_and_read.Goals.{Start}

-- what its type says of each corner
corners_within : (l : List Point2) (us : List Val) → shadow (each Point2 (e_struct the_type the_laws the_copy).ty.own_val l us) → Within (corner_cells l)
unfolding corner_cells
corners_within [] us h = tt
corners_within (p ∷ l) [] h = absurd h
corners_within (p ∷ l) (u ∷ us) h = let q = h.0.1.1 in (passes _ q.0.1, (passes _ q.1.0.1, corners_within l us h.1))

within_take : (n : ℕ) (l : List Point2) → Within (corner_cells l) → Within (corner_cells (take n l))
unfolding corner_cells
within_take zero l h = tt
within_take (suc n) [] h = tt
within_take (suc n) (p ∷ l) h = (h.0, (h.1.0, within_take n l h.1.1))

-- the frame stands at the start of the buffer
written : (once : Bool) (n : ℕ) (x y : Float) (l : List Point2) → n ≤ 16 → length l ≡ 16 → take (13 + 8 * n) (fence_written n (fence_frame once n x y l) (replicate 141 0)) ≡ fence_frame once n x y l
unfolding fence_written frame_written
written once n x y l h k =
    let f = fence_frame once n x y l in
    let e : length f ≡ 13 + 8 * n = size once n x y l (omega arith) in
    simp (le-ltb 16 n h, le-ltb 141 (length f) (omega arith)) (take_at f (drop (length f) (replicate 141 0)) (13 + 8 * n) e)

-- and nothing is declined
accepted : (once : Bool) (n : ℕ) (x y : Float) (l : List Point2) → n ≤ 16 → length l ≡ 16 → check_write n (fence_frame once n x y l) (replicate 141 0) ≡ Ok tt
unfolding check_write check_room
accepted once n x y l h k =
    let e : length (fence_frame once n x y l) ≡ 13 + 8 * n = size once n x y l (omega arith) in
    simp (le-ltb 16 n h, le-ltb 141 (length (fence_frame once n x y l)) (omega arith))

module _ (c : Start) where
  abbrev q : FenceRead
  q = c.args.r

  long : length q.corners ≡ 16
  long = c.well_formed.0.1.1.1.1.1.1.0.1.0.1

  within : Within (fence_cells q.count q.min_alt_m q.max_alt_m (take q.count q.corners))
  unfolding fence_cells
  within =
      let f = c.well_formed.0.1.1 in
      (f.1.0.1, (passes _ f.1.1.0.1, (passes _ f.1.1.1.0.1, within_take q.count q.corners (corners_within q.corners _ f.1.1.1.1.0.1.1))))

-- what stands in the buffer is read as the fence
read_back : (c : Start) (b : List ℕ) → c.args.r.count ≤ 16 → b ≡ fence_written c.args.r.count (frame_of c.args.r) (replicate 141 0)
    → read_fence (take (13 + 8 * c.args.r.count) b) ≡ Ok (fence_sent c.args.r.once_round c.args.r.count c.args.r.min_alt_m c.args.r.max_alt_m (take c.args.r.count c.args.r.corners))
read_back c b h e =
    let q = c.args.r in
    ap (λ (l : List ℕ). read_fence (take (13 + 8 * q.count) l)) e
    ∙ ap read_fence (written q.once_round q.count q.min_alt_m q.max_alt_m q.corners h (long c))
    ∙ value_back q.once_round q.count q.min_alt_m q.max_alt_m q.corners h (long c) (within c)

pub returns-in_err-write_fence : goal.returns-in_err-write_fence
returns-in_err-write_fence c =
    let q = c.args.r in
    let s = goal.at.returns-in_err-write_fence c in
    let e = sym (accepted q.once_round q.count q.min_alt_m q.max_alt_m q.corners (omega arith) (long s.Start)) ∙ sym c.write_fence.ensures.0 ∙ c.in_err-write_fence.was in
    let z : ◌≡◌ {A = ℕ} 0 1 = cc in
    absurd (omega arith)

-- what is read, by the code's values
module _ (c : Start) (n : ℕ) (b : List ℕ) (r : Result FenceRead FrameError) (h : c.args.r.count ≤ 16) (e : n ≡ c.args.r.count)
    (w : b ≡ fence_written c.args.r.count (frame_of c.args.r) (replicate 141 0)) (f : r ≡ read_fence (take (13 + 8 * n) b)) where
  pub read_is : r ≡ Ok (fence_sent c.args.r.once_round c.args.r.count c.args.r.min_alt_m c.args.r.max_alt_m (take c.args.r.count c.args.r.corners))
  read_is = f ∙ ap (λ (k : ℕ). read_fence (take (13 + 8 * k) b)) e ∙ read_back c b h w

pub returns-in_err-read_fence : goal.returns-in_err-read_fence
returns-in_err-read_fence c =
    let e = sym (read_is (goal.at.returns-in_err-read_fence c).Start _ _ _ (omega arith) c.from.ensures c.write_fence.ensures.1 c.read_fence.ensures) ∙ c.in_err-read_fence.was in
    let z : ◌≡◌ {A = ℕ} 0 1 = cc in
    absurd (omega arith)

pub returns : goal.returns
returns c =
    let q = c.args.r in
    let e = sym c.in_ok-read_fence.was ∙ read_is (goal.at.returns c).Start _ _ _ (omega arith) c.from.ensures c.write_fence.ensures.1 c.read_fence.ensures in
    let v : c.in_ok-read_fence.field-0 ≡ fence_sent q.once_round q.count q.min_alt_m q.max_alt_m (take q.count q.corners) = cc in
    simp (le-ltb 16 q.count (omega arith)) (ap Ok v)
