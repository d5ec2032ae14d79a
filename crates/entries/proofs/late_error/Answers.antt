-- `entries::late_error` meets its contract. Assumes nothing.
use mathlib.Core.Path.{refl, sym, ap, ◌∙◌}
use Rattle.std.proofs.lemmas.Result.{err_from_is_err_and}
use Rattle.wire.proofs.Head.{head_says}
use Rattle.entries.specs.Errors.{call_number}
use Rattle.entries.proofs.Numbers.{call_number_not_0}
use Rattle.entries.proofs.Judged.{low_head}
use Rattle.entries.proofs.late_error.Goals as goal

pub state_on-low-requires : goal.state_on-low-requires
state_on-low-requires c = (head_says 10 304 c.args.state.now c.requires.1).1.1

pub check_state-requires : goal.check_state-requires
check_state-requires c = rw (c.requires.0, c.state_on-low.ensures) (low_head c.args.state.now c.requires.1)

pub returns-in_err-check_state : goal.returns-in_err-check_state
returns-in_err-check_state c =
    let p = err_from_is_err_and c.from_residual.result c.from_residual.ensures.1 in
    let e = ap call_number (sym c.in_err-check_state.was) ∙ c.check_state.ensures.value in
    rw (p.1, p.2, ← c.state_on-low.ensures, ← c.requires.0, ← e, call_number_not_0 c.in_err-check_state.field-0.0) refl

pub returns : goal.returns
returns c =
    let e = ap call_number (sym c.in_ok-check_state.was) ∙ c.check_state.ensures.value in
    rw (← c.state_on-low.ensures, ← c.requires.0, ← e) refl
