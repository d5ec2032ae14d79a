-- `edit_areas::place_of` meets its contract. Assumes nothing.
use mathlib.Core.Path.{◌≡◌, sym, ap}
use native.Mathlib.Omega.{arith}
use lib.ListN.{length, length-drop}
use Rattle.frame_areas.specs.AreaFrame.{area_of}
use Rattle.frame_areas.specs.AreasFrame.{bodies, held_in}
use Rattle.frame_areas.proofs.Walk.{bytes_first, whole_first, body_back, held_sized}
use Rattle.edit_areas.proofs.Cuts.{starts, passes}
use Rattle.edit_areas.proofs.place_of.Goals as goal
use Rattle.edit_areas.proofs.place_of.Goals.{After-into_iter-body-iterator}

-- at the start all are left
all_left : (c : After-into_iter-body-iterator) → bodies c.into_iter-body-iterator.result.left c.into_iter-body-iterator.result.rest.now ≡ held_in c.args.s.now
all_left c = rw c.into_iter-body-iterator.ensures.into_iter_gives c.new-body-items.ensures

pub loop-body-init : goal.loop-body-init
loop-body-init c =
    ((tt, tt), rw (all_left c, c.min-at.ensures), rw (all_left c, c.min-at.ensures) (starts c.args.s.now c.args.number))

pub overflow_add-at : goal.overflow_add-at
overflow_add-at c =
    let l = c.loop-body in
    omega (arith, (held_sized c.args.s.now).bytes, l.invariant.1, bytes_first _ _ _ _ c.in-Some.ensures.steps, length-drop 5 c.args.s.now)

pub loop-body-preserved : goal.loop-body-preserved
loop-body-preserved c =
    let l = c.loop-body in
    let b = c.in-Some.body.now in
    let e = c.in-Some.ensures.steps in
    let w = whole_first _ _ b _ e in (
      (tt, tt),
      omega (arith, l.invariant.1, bytes_first _ _ b _ e),
      passes l.at c.args.number _ (area_of b) _ _ (rw e at l.invariant.2) (omega (arith, c.u8_at-n.ensures, c.if-n-number.false)) (ap length (sym (body_back b (omega (arith, w))))),
    )
