-- `frame_areas::home_inside` meets its contract. Assumes nothing.
use Rattle.std.proofs.Common.{◌-◌, length, take, drop, sym, arith}
use Rattle.std.proofs.lemmas.Grind.{common_steps}
use Rattle.std.proofs.lemmas.List.{drop_more}
use Rattle.std.proofs.Math.Bool.{or-false}
use Rattle.corners.proofs.Places.{nowhere}
use lib.ListN.{drop_of_length-le}
use Rattle.geometry.specs.Polygon.{zero_point}
use Rattle.frame_areas.proofs.Home.{few, round}
use Rattle.frame_areas.proofs.home_inside.Goals as goal

pub returns-in_default : goal.returns-in_default
returns-in_default c = rw (← c.corners.ensures) (sym (few c.corners.result.now zero_point (omega arith)))

pub returns-then-rest-lt2 : goal.returns-then-rest-lt2
returns-then-rest-lt2 c = rw (← c.corners.ensures) (sym (few c.corners.result.now zero_point (grind (arith, common_steps))))

pub returns-then-home_not_within : goal.returns-then-home_not_within
returns-then-home_not_within c =
    let v = c.corners.result.now in
    let l = c.loop-b in
    rw (← c.corners.ensures, round v zero_point (grind (arith, common_steps)), ← l.invariant, drop_more (take (length v - 1) (drop 1 v)) l.b-index nowhere c.loop-b-test.true, ← c.if-home_not_within.ensures)

pub returns : goal.returns
returns c =
    let v = c.corners.result.now in
    let l = c.loop-b in
    rw (← c.corners.ensures, round v zero_point (grind (arith, common_steps)), ← l.invariant, drop_of_length-le (take (length v - 1) (drop 1 v)) {i = l.b-index} c.loop-b-test.false, c.home_not_within-2.ensures, or-false)
