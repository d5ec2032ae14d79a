-- `frame_areas::counts_fit` meets its contract. Assumes nothing.
use mathlib.Core.Path.{◌≡◌, ◌∙◌, sym, ap}
use mathlib.Core.List.{List, []}
use native.Mathlib.Omega.{arith}
use lib.ListN.{length, length-drop}
use lib.Dec.{eqb}
use Rattle.frame_areas.specs.AreaFrame.{Sent}
use Rattle.frame_areas.specs.AreasFrame.{bodies_of}
use Rattle.frame_areas.proofs.Walk.{bytes_first, held_sized, fits_then, fits_else}
use Rattle.frame_areas.proofs.counts_fit.Goals as goal

no_bytes : {l : List Sent} → l ≡ [] → length (bodies_of l) ≡ 0
unfolding bodies_of
no_bytes e = ap (λ k. length (bodies_of k)) e

pub overflow_add-n : goal.overflow_add-n
overflow_add-n c =
    let h = held_sized c.args.s.now in
    omega (arith, h.two, h.bytes, c.loop-body.invariant.1, ap length c.in-Some.ensures.steps, length-drop 5 c.args.s.now)

pub overflow_add-bytes : goal.overflow_add-bytes
overflow_add-bytes c =
    let l = c.loop-body in
    omega (arith, (held_sized c.args.s.now).bytes, l.invariant.2, bytes_first _ _ _ _ c.in-Some.ensures.steps, length-drop 5 c.args.s.now)

pub returns-then-n-from : goal.returns-then-n-from
returns-then-n-from c =
    let l = c.loop-body in
    let none = c.in-None.ensures.steps.0 in
    fits_then c.args.s.now l.n l.bytes (omega (arith, l.invariant.1, ap length none)) (omega (arith, l.invariant.2, no_bytes none)) (c.if-n-from.true ∙ c.from.ensures ∙ c.u8_at.ensures)

pub returns-else-n-from : goal.returns-else-n-from
returns-else-n-from c =
    let l = c.loop-body in
    let none = c.in-None.ensures.steps.0 in
    let u = c.from.ensures ∙ c.u8_at.ensures in
    ap (λ k. eqb l.n k) u
    ∙ fits_else c.args.s.now l.n l.bytes (omega (arith, l.invariant.1, ap length none)) (omega (arith, l.invariant.2, no_bytes none)) (λ e. c.if-n-from.false (e ∙ sym u))
