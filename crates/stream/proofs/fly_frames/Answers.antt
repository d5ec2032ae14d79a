-- `stream::fly_frames` meets its contract. The invariant: what is behind the bytes put is as it was, the areas held fit their slice, and what is left to do makes
-- the same whole. Assumes nothing.
use Prim.Native.Nat.{◌+◌, ◌-◌, zero-le}
use native.Mathlib.Omega.{arith}
use mathlib.Core.Path.{◌≡◌, sym, ◌∙◌, refl}
use lib.ListN.{length}
use Rattle.stream.specs.Stream.{progress, fly_frames}
use Rattle.stream.proofs.Frames.{room_next, drop-later, again, take-most, halts, spent, ends}
use Rattle.stream.proofs.fly_frames.Goals as goal

pub loop-turn-init : goal.loop-turn-init
unfolding fly_frames
loop-turn-init c =
    let all : length c.args.input.now - 0 ≡ length c.args.input.now = omega arith in
    record { taken = zero-le; put = zero-le; behind = refl; areas = omega (arith, c.min.ensures); space = c.told-held; same = rw (all, c.min.ensures, take-most c.args.session.now.areas c.args.held.now c.told-held) refl }

pub fly_next-p-requires : goal.fly_next-p-requires
fly_next-p-requires c =
    let l = c.loop-turn in
    record {
      n_in_bounds = c.next_of-n.ensures.result_in_bounds;
      put_in_bounds = room_next l.p c.args.input.now l.out l.held _ l.invariant.put (c.next_of-n.ensures.by_index l.held) (omega arith);
      areas_bound = l.invariant.areas;
      in_bounds = omega (arith, l.invariant.space);
    }

pub loop-turn-preserved : goal.loop-turn-preserved
loop-turn-preserved c =
    let l = c.loop-turn in
    let a = c.fly_next-p in
    let one : length c.args.input.now - (l._turn + 1) ≡ length c.args.input.now - l._turn - 1 = omega arith in
    record {
      taken = a.ensures.taken_in_bounds.0;
      put = a.ensures.taken_in_bounds.2;
      behind = a.ensures.out_unchanged ∙ drop-later _ _ _ _ a.ensures.taken_in_bounds.1 l.invariant.behind;
      areas = a.ensures.taken_in_bounds.3;
      space = a.auto.held ∙ l.invariant.space;
      same = rw one (again _ c.args.session.now.flight c.args.input.now (length c.args.out.now) (progress l.p l.out l.held) _ c.next_of-n.result _ a.ensures.held_after (rw l.auto.out at (c.next_of-n.ensures.by_index l.held)) (omega arith) (omega arith) l.invariant.same);
    }

pub returns-then-n-eq0 : goal.returns-then-n-eq0
returns-then-n-eq0 c =
    let l = c.loop-turn in
    let all = ends l.p l.out l.held c.args.out.now _ (sym (halts (length c.args.input.now - l._turn) c.args.session.now.flight c.args.input.now (length c.args.out.now) _ c.next_of-n.result (rw l.auto.out at (c.next_of-n.ensures.by_index l.held)) (omega arith)) ∙ l.invariant.same) l.invariant.put l.auto.out l.invariant.behind l.invariant.areas l.invariant.space l.invariant.taken in
    record { value = all.0; out_after = all.1.0; held_after = all.1.1.0; taken_in_bounds = all.1.1.1 }

pub returns : goal.returns
returns c =
    let l = c.loop-turn in
    let all = ends l.p l.out l.held c.args.out.now _ (sym (spent (length c.args.input.now - l._turn) c.args.session.now.flight c.args.input.now (length c.args.out.now) _ (omega arith)) ∙ l.invariant.same) l.invariant.put l.auto.out l.invariant.behind l.invariant.areas l.invariant.space l.invariant.taken in
    record { value = all.0; out_after = all.1.0; held_after = all.1.1.0; taken_in_bounds = all.1.1.1 }
