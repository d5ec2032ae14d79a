-- `failsafe::failsafe_merge` meets its contract. Assumes nothing.
use mathlib.Core.Path.{refl, sym, ap, ◌∙◌}
use Rattle.entries.specs.Errors.{call_number}
use Rattle.entries.proofs.Numbers.{call_number_not_0}
use Rattle.merge_frames.specs.Call.{merge_number}
use Rattle.merge_frames.proofs.Checked.{after_0, after_refusal}
use Rattle.failsafe.proofs.failsafe_merge.Goals as goal

pub returns-in-Err : goal.returns-in-Err
returns-in-Err c =
    let a = c.args in
    let n = ap call_number (sym c.in-Err.is) ∙ c.check.ensures in
    rw (after_refusal a.config.now a.fence.now a.first.now a.second.now a.output.now _ n (call_number_not_0 _)) record { value = c.from.ensures ∙ c.number.ensures; output_after = refl }

pub returns-in-Ok : goal.returns-in-Ok
returns-in-Ok c =
    let a = c.args in
    let h = ap call_number (sym c.in_default.is) ∙ c.check.ensures in
    rw (← after_0 a.config.now a.fence.now a.first.now a.second.now a.output.now h) record { value = ap merge_number (sym c.in-Ok.is) ∙ c.merge_accepted.ensures.value; output_after = c.merge_accepted.ensures.output_after }

pub returns-in-Err-merge_accepted : goal.returns-in-Err-merge_accepted
returns-in-Err-merge_accepted c =
    let a = c.args in
    let h = ap call_number (sym c.in_default.is) ∙ c.check.ensures in
    rw (← after_0 a.config.now a.fence.now a.first.now a.second.now a.output.now h)
    record {
      value = c.from-in-Err-merge_accepted.ensures ∙ c.number-in-Err-merge_accepted.ensures ∙ ap merge_number (sym c.in-Err-merge_accepted.is) ∙ c.merge_accepted.ensures.value;
      output_after = c.merge_accepted.ensures.output_after;
    }
