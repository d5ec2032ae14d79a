-- `entries::step_or_check` meets its contract. Assumes nothing.
use mathlib.Core.Path.{◌≡◌, refl, sym, ap, ◌∙◌}
use lib.Seq.{take_all}
use native.Mathlib.Nat.{le_of_eq}
use Rattle.std.proofs.lemmas.Result.{err_from_is_err_and}
use Rattle.frame_config.specs.ConfigFrame.{keeps_raised, config_at}
use Rattle.frame_config.proofs.Accepted.{length-due}
use Rattle.frame_areas.specs.AreaFrame.{area_number}
use Rattle.flight.specs.Flight.{accept_flight, read_flight}
use Rattle.calls.specs.Form.{form_of}
use Rattle.entries.proofs.Numbers.{area_number_not_0}
use Rattle.entries.proofs.Flown.{not_keeps, config_refused, fence_refused, flight_is, refused_call, areas_refused, checked, flown}
use Rattle.entries.proofs.step_or_check.Goals as goal
use Rattle.entries.proofs.step_or_check.Goals.{After-accept_frame-accepted}

-- what is read, judged and handed on is the flight of both frames
read_is : (c : After-accept_frame-accepted) → c.accept_frame-accepted.result ≡ read_flight c.args.config.now c.args.fence.now
read_is c =
    let a = c.args in
    let s = a.config.now in
    let h = sym c.check_config_frame.ensures.value ∙ c.in_ok-check_config_frame.was in
    let t = take_all 246 s (le_of_eq (length-due s h)) in
    c.accept_frame-accepted.ensures
    ∙ (λ i. accept_flight (config_at (t i) (keeps_raised (t i))) c.in_ok-read.read)
    ∙ sym (flight_is s a.fence.now _ h (sym c.read_fence.ensures ∙ c.in_ok-read.was))

pub returns-in_err-check_config_frame : goal.returns-in_err-check_config_frame
returns-in_err-check_config_frame c =
    let a = c.args in
    let p = err_from_is_err_and c.from_residual.result c.from_residual.ensures.1 in
    let f = config_refused a.config.now a.fence.now _ (sym c.check_config_frame.ensures.value ∙ c.in_err-check_config_frame.was) in
    rw (p.1, p.2, refused_call a.checking a.with_side a.config.now a.fence.now a.state.now a.telemetry.now a.output.now a.areas.now _ f) record { value = refl; state_after = refl; output_after = refl }

pub returns-in_err-read : goal.returns-in_err-read
returns-in_err-read c =
    let a = c.args in
    let p = err_from_is_err_and c.from_residual-in_err-read.result c.from_residual-in_err-read.ensures.1 in
    let h = sym c.check_config_frame.ensures.value ∙ c.in_ok-check_config_frame.was in
    let f = fence_refused a.config.now a.fence.now _ h (sym c.read_fence.ensures ∙ c.in_err-read.was) in
    rw (p.1, p.2, refused_call a.checking a.with_side a.config.now a.fence.now a.state.now a.telemetry.now a.output.now a.areas.now _ f) record { value = refl; state_after = refl; output_after = refl }

pub returns-in-Err : goal.returns-in-Err
returns-in-Err c =
    let a = c.args in
    let f = sym (read_is (goal.at.returns-in-Err c).After-accept_frame-accepted) ∙ c.in-Err.is in
    rw (refused_call a.checking a.with_side a.config.now a.fence.now a.state.now a.telemetry.now a.output.now a.areas.now _ f) record { value = refl; state_after = refl; output_after = refl }

pub returns-in_err-check_areas : goal.returns-in_err-check_areas
returns-in_err-check_areas c =
    let a = c.args in
    let p = err_from_is_err_and c.from_residual-in_err-check_areas.result c.from_residual-in_err-check_areas.ensures.1 in
    let f = sym (read_is (goal.at.returns-in_err-check_areas c).After-accept_frame-accepted) ∙ c.in-Ok.is in
    let n = ap area_number (sym c.in_err-check_areas.was) ∙ c.check_areas.ensures in
    rw (p.1, p.2, areas_refused a.checking a.with_side a.config.now a.fence.now a.state.now a.telemetry.now a.output.now a.areas.now _ f _ n (area_number_not_0 _)) record { value = refl; state_after = refl; output_after = refl }

pub returns-then-checking : goal.returns-then-checking
returns-then-checking c =
    let a = c.args in
    let f = sym (read_is (goal.at.returns-then-checking c).After-accept_frame-accepted) ∙ c.in-Ok.is in
    let n = ap area_number (sym c.in_ok-check_areas.was) ∙ c.check_areas.ensures in
    rw (checked a.checking a.with_side a.config.now a.fence.now a.state.now a.telemetry.now a.output.now a.areas.now _ f n c.if-checking.true) record { value = refl; state_after = refl; output_after = refl }

pub step_wide-requires : goal.step_wide-requires
step_wide-requires c = not_keeps _ _ (sym c.is_wide.ensures ∙ c.if-is_wide.true)

pub returns-then-is_wide : goal.returns-then-is_wide
unfolding form_of
returns-then-is_wide c =
    let a = c.args in
    let f = sym (read_is (goal.at.returns-then-is_wide c).After-accept_frame-accepted) ∙ c.in-Ok.is in
    let n = ap area_number (sym c.in_ok-check_areas.was) ∙ c.check_areas.ensures in
    rw (flown a.checking a.with_side a.config.now a.fence.now a.state.now a.telemetry.now a.output.now a.areas.now _ f n c.if-checking.false, ← c.is_wide.ensures, c.if-is_wide.true) record { value = c.step_wide.ensures.value; state_after = c.step_wide.ensures.state_after; output_after = c.step_wide.ensures.output_after }

pub returns-else-is_wide : goal.returns-else-is_wide
unfolding form_of
returns-else-is_wide c =
    let a = c.args in
    let f = sym (read_is (goal.at.returns-else-is_wide c).After-accept_frame-accepted) ∙ c.in-Ok.is in
    let n = ap area_number (sym c.in_ok-check_areas.was) ∙ c.check_areas.ensures in
    rw (flown a.checking a.with_side a.config.now a.fence.now a.state.now a.telemetry.now a.output.now a.areas.now _ f n c.if-checking.false, ← c.is_wide.ensures, c.if-is_wide.false) record { value = c.step_state.ensures.value; state_after = c.step_state.ensures.state_after; output_after = c.step_state.ensures.output_after }
