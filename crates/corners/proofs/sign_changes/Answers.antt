-- `sign_changes` meets its contract. Assumes nothing.
use Rattle.std.proofs.Common.{◌-◌, length}
use lib.ListN.{take, drop, drop_of_length-le}
use Rattle.corners.proofs.Places.{nowhere}
use Rattle.corners.proofs.OnceRound.{counted}
use Rattle.corners.proofs.Around.{sides_of}
use Rattle.corners.proofs.sign_changes.Goals as goal

pub returns-in-None : goal.returns-in-None
returns-in-None c =
    let v = c.args.pts.now in
    let h = rw (drop_of_length-le (take (length v - 1) (drop 1 v)) {i = c.loop-b.b-index} c.loop-b-test.false) at c.loop-b.invariant.1 in
    rw (← counted v, sides_of v nowhere c.in-len1-up.len_at_least, ← h, ← c.north_sign-2.ensures, ← c.joined.ensures, c.in-None.is)

pub returns-in-Some : goal.returns-in-Some
returns-in-Some c =
    let v = c.args.pts.now in
    let h = rw (drop_of_length-le (take (length v - 1) (drop 1 v)) {i = c.loop-b.b-index} c.loop-b-test.false) at c.loop-b.invariant.1 in
    rw (← counted v, sides_of v nowhere c.in-len1-up.len_at_least, ← h, ← c.north_sign-2.ensures, ← c.joined.ensures, c.in-Some.is, c.differ.ensures)
