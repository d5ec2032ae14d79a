-- `frame_areas::check_bodies` meets its contract. Assumes nothing.
use native.Mathlib.Omega.{arith}
use mathlib.Core.Path.{◌≡◌, refl, sym, ap}
use mathlib.Core.Logic.{inl}
use mathlib.Core.List.{[], ◌∷◌}
use lib.ListN.{length, length-drop}
use Rattle.std.specs.Iterator.Adapters.{enumerate_source, enumerate_count}
use Rattle.std.proofs.lemmas.Result.{err_from_is_err_and}
use Rattle.areas.specs.Held.{read}
use Rattle.areas.specs.Calls.{code}
use Rattle.frame_areas.specs.AreaFrame.{area_rules, area_of}
use Rattle.frame_areas.specs.AreasFrame.{bodies, held_in}
use Rattle.frame_areas.proofs.Walk.{held_sized, fault_from, one_by_one, turn_ends, turn_goes}
use Rattle.frame_areas.proofs.Numbers.{area_some}
use Rattle.frame_areas.proofs.check_bodies.Goals as goal
use Rattle.frame_areas.proofs.check_bodies.Goals.{After-into_iter-n-iterator, After-check_body}

-- at the start all are left
all_left : (c : After-into_iter-n-iterator) → bodies (enumerate_source c.into_iter-n-iterator.result).left (enumerate_source c.into_iter-n-iterator.result).rest.now ≡ held_in c.args.s.now
all_left c = rw (c.into_iter-n-iterator.ensures.into_iter_gives, c.enumerate-n-items.ensures.source) c.new.ensures

from_zero : (c : After-into_iter-n-iterator) → enumerate_count c.into_iter-n-iterator.result ≡ 0
from_zero c = rw c.into_iter-n-iterator.ensures.into_iter_gives c.enumerate-n-items.ensures.count

-- the first of those left is in turn
in_turn : (c : After-check_body) → fault_from area_rules c.loop-n.before c.in-Some.n (area_of c.in-Some.body.now ∷ bodies (enumerate_source c.next.new.self).left (enumerate_source c.next.new.self).rest.now) ≡ code (read area_rules (held_in c.args.s.now))
in_turn c = let s = c.in-Some.ensures.steps in rw (← s.0, s.1) c.loop-n.invariant.1

pub loop-n-init-derived : goal.loop-n-init-derived
loop-n-init-derived c =
    let h = held_sized c.args.s.now in
    ((tt, tt, inl (omega (arith, ap length (all_left c), from_zero c, h.two, h.bytes, length-drop 5 c.args.s.now))), tt)

pub loop-n-init : goal.loop-n-init
loop-n-init c =
    let h = held_sized c.args.s.now in
    (((tt, tt, inl (omega (arith, ap length (all_left c), from_zero c, h.two, h.bytes, length-drop 5 c.args.s.now))), tt), rw (all_left c, from_zero c) (sym (one_by_one area_rules 0 [] (held_in c.args.s.now) tt)))

pub returns-in_err-check_body : goal.returns-in_err-check_body
returns-in_err-check_body c =
    let p = err_from_is_err_and c.from_residual.result c.from_residual.ensures.1 in
    rw (p.1, p.2) (turn_ends c.loop-n.before c.in-Some.n c.in-Some.body.now _ _ (in_turn (goal.at.returns-in_err-check_body c).After-check_body) c.u8_at-number.result _ c.u8_at-number.ensures c.in_err-check_body.ensures (area_some c.in_err-check_body.field-0.0))

pub loop-n-preserved : goal.loop-n-preserved
loop-n-preserved c =
    let s = c.in-Some.ensures.steps in
    ((c.in-Some.ensures.goes.keeps, tt), rw (s.2, ← s.1) (turn_goes c.loop-n.before c.in-Some.n c.in-Some.body.now _ _ (in_turn (goal.at.loop-n-preserved c).After-check_body) c.u8_at-number.result 0 c.u8_at-number.ensures c.in_ok-check_body.ensures refl))

pub returns : goal.returns
unfolding fault_from
returns c = rw c.in-None.ensures.steps.0.0 at c.loop-n.invariant.1
