-- `decided::answer_front` meets its contract. Assumes nothing.
use mathlib.Core.Path.{sym, ◌∙◌}
use Rattle.decided.proofs.Front.{flew, stood}
use Rattle.decided.proofs.answer_front.Goals as goal

pub returns-then-in_flight : goal.returns-then-in_flight
returns-then-in_flight c =
    let k = c.args in
    let p = c.fly_frames-p in let all = flew k.session.now k.input.now k.out.now k.held.now _ _ p.result (sym c.in_flight.ensures ∙ c.if-in_flight.true) p.ensures.value p.ensures.out_after p.ensures.held_after p.ensures.taken_in_bounds.0 p.ensures.taken_in_bounds.1 in record { held_after = all.0; taken_value = all.1.0; put_value = all.1.1.0; out_after = all.1.1.1.0; taken_in_bounds = all.1.1.1.1 }

pub returns : goal.returns
returns c =
    let k = c.args in
    let a = c.set_up in let all = stood k.session.now k.input.now k.out.now k.held.now _ a.result (sym c.in_flight.ensures ∙ c.if-in_flight.false) a.ensures.value a.ensures.out_after in record { held_after = all.0; taken_value = all.1.0; put_value = all.1.1.0; out_after = all.1.1.1.0; taken_in_bounds = all.1.1.1.1 }
