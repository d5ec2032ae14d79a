-- `entries::check_state` meets its contract. Assumes nothing.
use mathlib.Core.Path.{sym, ap, ◌∙◌}
use native.Mathlib.Omega.{arith}
use Rattle.calls.specs.Entry.{flight_keeps}
use Rattle.entries.specs.Errors.{call_number}
use Rattle.entries.proofs.Judged.{judged_same, judged_accepted, judged_refused}
use Rattle.entries.proofs.check_state.Goals as goal

pub returns-in-Ok : goal.returns-in-Ok
returns-in-Ok c =
    let e = c.step_state.ensures in
    let k = flight_keeps c.args.flight.now in
    record {
      value = judged_refused k c.args.flight.now c.args.areas.now c.args.low.now c.requires _ (ap call_number (sym c.in-Ok.is) ∙ e.value) (λ z. omega arith);
      low_unchanged = e.state_after ∙ judged_same k c.args.flight.now c.args.areas.now c.args.low.now c.requires;
    }

pub returns-then-number-eq1 : goal.returns-then-number-eq1
returns-then-number-eq1 c =
    let e = c.step_state.ensures in
    let k = flight_keeps c.args.flight.now in
    record {
      value = judged_accepted k c.args.flight.now c.args.areas.now c.args.low.now c.requires _ (ap call_number (sym c.in-Err.is) ∙ e.value) (sym c.number.ensures ∙ c.if-number-eq1.true);
      low_unchanged = e.state_after ∙ judged_same k c.args.flight.now c.args.areas.now c.args.low.now c.requires;
    }

pub returns-else-number-eq1 : goal.returns-else-number-eq1
returns-else-number-eq1 c =
    let e = c.step_state.ensures in
    let k = flight_keeps c.args.flight.now in
    record {
      value = judged_refused k c.args.flight.now c.args.areas.now c.args.low.now c.requires _ (ap call_number (sym c.in-Err.is) ∙ e.value) (λ z. c.if-number-eq1.false (c.number.ensures ∙ z));
      low_unchanged = e.state_after ∙ judged_same k c.args.flight.now c.args.areas.now c.args.low.now c.requires;
    }
