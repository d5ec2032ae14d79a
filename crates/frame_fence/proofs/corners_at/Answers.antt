-- `frame_fence::corners_at` meets its contract. Assumes nothing.
use native.Mathlib.Omega.{arith}
use Rattle.geometry.specs.Polygon.{zero_point}
use Rattle.corners.proofs.Places.{nowhere}
use Rattle.geometry.proofs.Hold.{store, stored}
use Rattle.frame_fence.specs.FenceFrame.{corners_at, corner_array}
use Rattle.frame_fence.proofs.Corners.{length-corners, corner_at}
use Rattle.frame_fence.proofs.corners_at.Goals as goal

pub loop-i-preserved : goal.loop-i-preserved
loop-i-preserved c =
    let a = c.args in
    let l = c.loop-i in
    let m = corners_at a.s.now a.at a.n in
    let e = length-corners a.s.now a.at a.n in
    rw (l.invariant, c.point_at.ensures, ← corner_at a.s.now a.at a.n l.i nowhere (omega arith)) (store m zero_point l.i nowhere (omega arith) (omega arith))

pub returns : goal.returns
unfolding corner_array
returns c =
    let a = c.args in
    let l = c.loop-i in
    let e = length-corners a.s.now a.at a.n in
    rw (l.invariant, e) (stored (corners_at a.s.now a.at a.n) zero_point l.i a.n e (omega arith))
