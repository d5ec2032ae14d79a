-- `normalize_ccw` meets its contract. Assumes nothing.
use Rattle.std.proofs.Common.{◌≡◌, ◌-◌, length, cond, arith}
use Rattle.geometry.specs.Polygon.{zero_point, held_order}
use Rattle.geometry.proofs.Hold.{store, length-order, held_at}
use Rattle.geometry.proofs.normalize_ccw.Goals as goal
use Rattle.geometry.proofs.normalize_ccw.Goals.{then-ccw, else-ccw}

pub loop-i-preserved : goal.loop-i-preserved
loop-i-preserved c =
    let i = c.loop-i.i in
    let l = c.args.pts.now in
    let h = c.loop-i-test.true in
    let place : c.if-ccw.at ≡ cond c.args.ccw i (length l - 1 - i) = elim c.if-ccw.branch [ then-ccw w ↦ rw (w.if-ccw.true) w.at-is | else-ccw w ↦ rw (w.if-ccw.false) w.at-is ] in
    rw (c.loop-i.invariant, place, held_at c.args.ccw l i _ h)
    (store (held_order c.args.ccw l) zero_point i _ (omega (arith, length-order c.args.ccw l, h)) (omega (arith, c.requires, h)))
