-- `entries::widen` meets its contract. Assumes nothing.
use mathlib.Core.Path.{refl, sym, ap, ◌∙◌}
use Rattle.std.proofs.lemmas.Result.{err_from_is_err_and}
use Rattle.entries.specs.Errors.{call_number}
use Rattle.entries.proofs.Numbers.{no_call_zero}
use Rattle.entries.proofs.Carried.{old_refused}
use Rattle.entries.proofs.widen.Goals as goal

pub returns-in_err-check_old : goal.returns-in_err-check_old
returns-in_err-check_old c =
    let p = err_from_is_err_and c.from_residual.result c.from_residual.ensures.1 in
    let e = ap call_number (sym c.in_err-check_old.was) ∙ c.check_old.ensures in
    rw (p.1, p.2, old_refused c.args.old.now c.args.last_now c.args.new.now (λ z. no_call_zero _ (e ∙ z))) record { value = e; after = refl }
