-- `ConvexPolygon::nearest_by` meets its contract. Assumes nothing.
use Rattle.std.proofs.Common.{◌≡◌, ◌-◌, ◌<◌, length, sym, arith}
use Rattle.std.proofs.lemmas.Grind.{common_steps}
use Rattle.std.proofs.lemmas.List.{drop_more}
use lib.Ieee.{nan}
use lib.ListN.{take, drop, drop_of_length-le}
use Rattle.geometry.proofs.Hold.{distance_few, distance_round}
use Rattle.geometry.proofs.ConvexPolygon.nearest_by.Goals as goal

pub returns-in_default : goal.returns-in_default
returns-in_default c = rw (← c.corners.ensures) (sym (distance_few c.corners.result.now c.args.lengths.now.m c.args.p (omega arith)))

pub returns-then-rest-lt2 : goal.returns-then-rest-lt2
returns-then-rest-lt2 c = rw (← c.corners.ensures) (sym (distance_few c.corners.result.now c.args.lengths.now.m c.args.p (grind (arith, common_steps))))

pub returns : goal.returns
returns c =
    let v = c.corners.result.now in
    let l = c.loop-i in
    let n : l.i ≡ length (take (length v - 1) (drop 1 v)) = omega arith in
    let m = c.args.lengths.now.m in
    let few : l.i < length m = grind (arith, common_steps) in
    let h = rw (drop_of_length-le (take (length v - 1) (drop 1 v)) {i = l.i} c.loop-i-test.false, drop_more m l.i nan few) at l.invariant in
    rw (← c.corners.ensures, distance_round v m c.args.p (grind (arith, common_steps)), ← h, n, c.nearer_side.ensures, c.edge_signed_distance-2.ensures)
