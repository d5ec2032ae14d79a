-- `inside::sides_of` meets its contract. Assumes nothing.
use Rattle.std.proofs.Common.{arith, rules}
use Rattle.geometry.proofs.Lengths.{after, next_side}
use Rattle.inside.proofs.Held.{few, others, hold_next, hold_last}
use Rattle.inside.proofs.sides_of.Goals as goal

pub loop-i-preserved : goal.loop-i-preserved
loop-i-preserved c =
    let v = c.corners.result.now in
    let l = c.loop-i in
    let k = few c.args.poly _ c.corners.ensures (search rules) in
    let n = others v c.in-len1-up.len_at_least in
    let h = next_side v c.in-len1-up.len_at_least l.i l.a c.loop-i-test.true l.invariant.0 in
    (after _ l.i _ _ h, rw (c.new.ensures, l.invariant.1) (hold_next _ l.i _ _ h (omega arith)))

pub returns : goal.returns
returns c =
    let v = c.corners.result.now in
    let l = c.loop-i in
    rw (c.new-2.ensures, ← c.corners.ensures)
    (hold_last v c.in-len1-up.len_at_least l.sides l.i l.a (few c.args.poly _ c.corners.ensures (search rules)) c.loop-i-test.false (omega arith) l.invariant.0 l.invariant.1)
