-- `frame_fence::write_fence` meets its contract. Assumes nothing.
use Prim.Native.Nat.{◌+◌, ◌*◌}
use mathlib.Core.Path.{◌≡◌, ◌∙◌, ap}
use native.Mathlib.Omega.{arith}
use lib.ListN.{length}
use borrow.Author.Rules.{rules}
use borrow.Author.Tests.{lt-ltb, le-ltb}
use Rattle.std.specs.Result.{result_map_both}
use Rattle.wire.proofs.Head.{room, no_room}
use Rattle.frame_fence.specs.declared.WriteError.{WriteError}
use Rattle.frame_fence.specs.FenceFrame.{frame_of, check_write, fence_written}
use Rattle.frame_fence.proofs.Bytes.{size}
use Rattle.frame_fence.proofs.write_fence.Goals as goal

pub returns-then-r-gt16 : goal.returns-then-r-gt16
unfolding check_write fence_written
returns-then-r-gt16 c =
    let t = lt-ltb 16 c.args.r.now.count (omega arith) in
    (simp t, simp t)

pub returns-then-s-from : goal.returns-then-s-from
unfolding check_write fence_written
returns-then-s-from c =
    let q = c.args.r.now in
    let long : length q.corners ≡ 16 = search rules in
    let r = no_room (frame_of q) c.args.s.now (13 + 8 * q.count) (size q.once_round q.count q.min_alt_m q.max_alt_m q.corners (omega arith)) (omega arith) in
    let t = le-ltb 16 q.count (omega arith) in
    (simp t (ap (result_map_both (λ x. x) WriteError.Frame) r.0), simp t r.1)

pub returns : goal.returns
unfolding check_write fence_written
returns c =
    let q = c.args.r.now in
    let long : length q.corners ≡ 16 = search rules in
    let r = room (frame_of q) c.args.s.now (13 + 8 * q.count) (size q.once_round q.count q.min_alt_m q.max_alt_m q.corners (omega arith)) (omega arith) in
    let t = le-ltb 16 q.count (omega arith) in
    (simp t (ap (result_map_both (λ x. x) WriteError.Frame) r.0), simp t (c.put_fence.ensures ∙ r.1))
