-- `frame_fence::put_corners` meets its contract. Assumes nothing.
use mathlib.Core.Path.{◌≡◌, refl}
use native.Mathlib.Omega.{arith}
use lib.ListN.{length}
use borrow.Author.Rules.{rules}
use Rattle.corners.proofs.Places.{nowhere}
use Rattle.frame_fence.specs.FenceFrame.{corner_cells}
use Rattle.frame_fence.proofs.Bytes.{next_corner}
use Rattle.frame_fence.proofs.put_corners.Goals as goal

pub loop-i-init : goal.loop-i-init
unfolding corner_cells
loop-i-init c = refl

pub loop-i-preserved : goal.loop-i-preserved
loop-i-preserved c =
    let l = c.loop-i in
    let corners = c.args.corners.now in
    let long : length corners ≡ 16 = search rules in
    next_corner c.args.s.now corners l.i nowhere (omega arith) l.invariant c.put_point.ensures
