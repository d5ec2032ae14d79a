-- `inside::judge` meets its contract. Assumes nothing.
use Rattle.std.proofs.Common.{◌≡◌, ◌/◌, ◌++◌, map, length, take, drop, sym, ap, ◌∙◌, arith}
use lib.Seq.{sets, length-take-le}
use borrow.Author.Tests.{eq-eqb, le-ltb}
use Rattle.wire.proofs.Stores.{stored}
use Rattle.types.specs.declared.Point2.{Point2}
use Rattle.corners.specs.Ring.{sides}
use Rattle.geometry.specs.Distance.{ring_of}
use Rattle.inside.specs.Inside.{inside, side_of, inside_by}
use Rattle.inside.specs.Call.{answers, judged}
use Rattle.inside.proofs.Stops.{by_own}
use Rattle.inside.proofs.Held.{held, many}
use Rattle.inside.proofs.Rows.{two_each}
use Rattle.inside.proofs.judge.Goals as goal

pub slice_bounds-sides-end : goal.slice_bounds-sides-end
slice_bounds-sides-end c = rw (c.corners-n.ensures, c.sides_of-sides.ensures) (many (ring_of c.args.poly.now))

pub slice_bounds-new-end : goal.slice_bounds-new-end
slice_bounds-new-end c = rw (c.corners-n.ensures, c.sides_of-sides.ensures) (sym (length-take-le _ _ (many (ring_of c.args.poly.now))))

pub returns-clause-output_after : goal.returns-clause-output_after
unfolding judged
returns-clause-output_after c =
    let a = c.args in
    let l = ring_of a.poly.now in
    let s = a.points.now in
    let o = a.output.now in
    let n = length s / 8 in
    let sides_held : take (length c.corners-n.result.now) c.sides_of-sides.result ≡ map side_of (sides l) = rw (c.corners-n.ensures, c.sides_of-sides.ensures) (held l) in
    let same = λ (p : Point2). c.new.ensures.value p ∙ ap (λ m. inside_by m p) sides_held ∙ by_own l p in
    let two = two_each (inside l) s n in
    rw (eq-eqb _ 0 c.if-points-ne0.false, le-ltb _ _ c.if-output-points.false)
    (c.put_answers.ensures ∙ (λ i. sets o 0 (answers (λ p. same p i) s n)) ∙ stored o (answers (inside l) s n) (omega arith) ∙ ap (λ k. answers (inside l) s n ++ drop k o) two)
