-- `ConvexPolygon::side_lengths` meets its contract. Assumes nothing.
use Rattle.std.proofs.Common.{◌≤◌, length, arith}
use Rattle.std.proofs.lemmas.Grind.{common_steps}
use Rattle.float32.specs.Binary32.{zero_f}
use Rattle.geometry.specs.Distance.{side_length}
use Rattle.geometry.proofs.Lengths.{after, store_next, next_side, last_side}
use Rattle.geometry.proofs.ConvexPolygon.side_lengths.Goals as goal

pub loop-i-preserved : goal.loop-i-preserved
loop-i-preserved c =
    let v = c.corners.result.now in
    let l = c.loop-i in
    let h = next_side v c.in-len1-up.len_at_least l.i l.a c.loop-i-test.true l.invariant.0 in
    (after _ l.i _ _ h, rw (c.side_length.ensures, l.invariant.1) (store_next _ l.i _ _ h side_length zero_f (grind (arith, common_steps))))

pub returns : goal.returns
returns c =
    let v = c.corners.result.now in
    let l = c.loop-i in
    let few : length v ≤ 16 = grind (arith, common_steps) in
    rw (c.side_length-2.ensures, ← c.corners.ensures)
    (last_side v c.in-len1-up.len_at_least l.m l.i l.a few c.loop-i-test.false (omega arith) l.invariant.0 l.invariant.1)
