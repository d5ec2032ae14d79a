-- `entries::step_wide` meets its contract. Assumes nothing.
use mathlib.Core.Path.{refl, sym, ◌∙◌}
use Rattle.std.proofs.lemmas.Result.{err_from_is_err_and}
use Rattle.entries.proofs.Judged.{wide_refused, late_call}
use Rattle.entries.proofs.step_wide.Goals as goal

pub returns-in_err-check_frame : goal.returns-in_err-check_frame
returns-in_err-check_frame c =
    let a = c.args in
    let p = err_from_is_err_and c.from_residual.result c.from_residual.ensures.1 in
    let h = sym c.check_frame.ensures.value ∙ c.in_err-check_frame.was in
    rw (p.1, p.2, wide_refused a.with_side a.flight.now a.areas.now a.state.now a.telemetry.now a.output.now _ h) record { value = refl; state_after = refl; output_after = refl }

pub returns-in-Err : goal.returns-in-Err
returns-in-Err c =
    let a = c.args in
    let ok_s = sym c.check_frame.ensures.value ∙ c.in_ok-check_frame.was in
    let late = sym c.check_frame-2.ensures.value ∙ c.in-Err.is in
    rw (late_call a.with_side a.flight.now a.areas.now a.state.now a.telemetry.now a.output.now _ ok_s late) record { value = c.late_error.ensures; state_after = refl; output_after = refl }
