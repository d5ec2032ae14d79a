-- `area` meets its contract. Assumes nothing.
use Rattle.std.proofs.Common.{◌-◌, length}
use lib.ListN.{take, drop, drop_of_length-le}
use Rattle.corners.specs.Acceptance.{polygon_area}
use Rattle.corners.proofs.Places.{nowhere}
use Rattle.corners.proofs.Around.{sides_of}
use Rattle.corners.proofs.area.Goals as goal

pub returns : goal.returns
unfolding polygon_area
returns c =
    let v = c.args.pts.now in
    let h = rw (drop_of_length-le (take (length v - 1) (drop 1 v)) {i = c.loop-b.b-index} c.loop-b-test.false) at c.loop-b.invariant in
    rw (sides_of v nowhere c.in-len1-up.len_at_least, ← h, c.area_term.ensures)
