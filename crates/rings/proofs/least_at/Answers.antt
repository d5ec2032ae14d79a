-- `least_at` meets its contract. Assumes nothing.
use Rattle.std.proofs.Common.{◌≡◌, ◌-◌, length, sym, ◌∙◌, arith}
use Rattle.corners.proofs.Places.{nowhere}
use Rattle.rings.specs.Corner.{before}
use Rattle.rings.proofs.Corner.{order}
use Rattle.rings.proofs.Places.{least_start, least_back}
use Rattle.rings.proofs.least_at.Goals as goal

pub loop-i-init : goal.loop-i-init
loop-i-init c =
    let e : c.saturating_sub-k.result ≡ length c.args.ring.now - 1 = omega arith in
    (omega arith, rw e (least_start before order c.args.ring.now nowhere))

pub loop-i-preserved-then-not-is_before : goal.loop-i-preserved-then-not-is_before
loop-i-preserved-then-not-is_before c =
    let l = c.loop-i in
    let h = least_back before order c.args.ring.now l.i l.k nowhere (omega arith) l.invariant.1 (omega arith) in
    (omega arith, sym (h ∙ rw (← c.is_before.ensures, c.if-not-is_before.true)))

pub loop-i-preserved : goal.loop-i-preserved
loop-i-preserved c =
    let l = c.loop-i in
    let h = least_back before order c.args.ring.now l.i l.k nowhere (omega arith) l.invariant.1 (omega arith) in
    (omega arith, sym (h ∙ rw (← c.is_before.ensures, c.if-not-is_before.false)))
