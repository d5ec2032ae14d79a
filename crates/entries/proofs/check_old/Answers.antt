-- `entries::check_old` meets its contract. Assumes nothing.
use native.Mathlib.Nat.{le_of_eq}
use mathlib.Core.Path.{refl, sym, ap, ◌∙◌}
use Rattle.std.proofs.lemmas.Result.{err_from_is_err_and}
use Rattle.wire.specs.Frame.{frame_number, frame_fault}
use Rattle.wire.proofs.Head.{head_says}
use Rattle.frame_state.specs.StateFrame.{state_kind, state_length, read_state}
use Rattle.calls.specs.Entry.{flight_keeps}
use Rattle.entries.proofs.Carried.{default_keeps, copied}
use Rattle.entries.proofs.check_old.Goals as goal

pub returns-in_err-check_frame : goal.returns-in_err-check_frame
unfolding read_state
returns-in_err-check_frame c =
    let p = err_from_is_err_and c.from_residual.result c.from_residual.ensures.1 in
    rw (p.1, p.2, sym c.check_frame.ensures.value ∙ c.in_err-check_frame.was) refl

pub copy-requires : goal.copy-requires
copy-requires c = le_of_eq (head_says 5 184 c.args.old.now (ap frame_number (sym c.check_frame.ensures.value ∙ c.in_ok-check_frame.was))).1.1

pub check_state-requires : goal.check_state-requires
check_state-requires c =
    let old = c.args.old.now in
    let ok = ap frame_number (sym c.check_frame.ensures.value ∙ c.in_ok-check_frame.was) in
    let same = c.copy.ensures.1 ∙ copied old _ (le_of_eq (sym (head_says 5 184 old ok).1.1)) in
    let keeps = ap flight_keeps c.default.ensures ∙ default_keeps in
    (λ i. frame_fault (state_kind (keeps i)) (state_length (keeps i)) (same i)) ∙ ok

pub returns : goal.returns
returns c =
    let old = c.args.old.now in
    let ok = ap frame_number (sym c.check_frame.ensures.value ∙ c.in_ok-check_frame.was) in
    let same = c.copy.ensures.1 ∙ copied old _ (le_of_eq (sym (head_says 5 184 old ok).1.1)) in
    let keeps = ap flight_keeps c.default.ensures ∙ default_keeps in
    c.check_state.ensures.value ∙ (λ i. frame_number (read_state (keeps i) (same i)))
