-- `stream::fly_next` meets its contract. The laws of one frame are in Frames. Assumes nothing.
use native.Mathlib.Omega.{arith}
use Rattle.stream.proofs.Frames.{stepped}
use Rattle.stream.proofs.fly_next.Goals as goal

pub returns : goal.returns
returns c =
    let g = c.args in
    let a = c.fly_frame-a in
    let all = stepped g.flight.now g.p.now g.n g.input.now g.out.now g.held.now a.result _ _ c.requires.put_in_bounds c.requires.areas_bound c.requires.in_bounds a.ensures.value a.ensures.out_after a.ensures.held_after in
    record {
      held_after = all.0;
      out_unchanged = all.1.0;
      taken_in_bounds = (c.requires.n_in_bounds, omega arith, omega (arith, all.1.1.0), all.1.1.1);
    }

pub overflow_add-result : goal.overflow_add-result
overflow_add-result c =
    let g = c.args in
    let a = c.fly_frame-a in
    let all = stepped g.flight.now g.p.now g.n g.input.now g.out.now g.held.now a.result _ _ c.requires.put_in_bounds c.requires.areas_bound c.requires.in_bounds a.ensures.value a.ensures.out_after a.ensures.held_after in
    omega (arith, all.1.1.0, c.well_formed)
