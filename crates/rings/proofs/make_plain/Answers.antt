-- `make_plain` meets its contract. Assumes nothing.
use Rattle.std.proofs.Common.{◌<◌, length, arith}
use Rattle.std.proofs.lemmas.List.Edits.{map_over_more}
use lib.ListN.{get_or}
use Rattle.corners.proofs.Laws.{get_or-within}
use Rattle.corners.proofs.Places.{nowhere}
use Rattle.rings.specs.Corner.{plain}
use Rattle.rings.proofs.make_plain.Goals as goal

pub loop-p-preserved : goal.loop-p-preserved
loop-p-preserved c =
    let l = c.loop-p in
    let i = l.p-index in
    let ring = l.ring in
    let within : i < length ring = omega arith in
    rw c.plain.ensures (map_over_more plain c.args.ring.now ring i (get_or ring i nowhere) c.loop-p-test.true l.invariant (get_or-within ring i nowhere _ within))
