-- `entries::fresh` meets its contract. Assumes nothing.
use mathlib.Core.Path.{sym, ap, ◌∙◌}
use Rattle.std.proofs.lemmas.Result.{err_from_is_err_and}
use Rattle.wire.specs.Frame.{frame_number}
use Rattle.calls.specs.Entry.{fresh_call}
use Rattle.entries.proofs.fresh.Goals as goal

pub returns-in_err-write_fresh : goal.returns-in_err-write_fresh
unfolding fresh_call
returns-in_err-write_fresh c =
    let p = err_from_is_err_and c.from_residual.result c.from_residual.ensures.1 in
    rw (p.1, p.2) record { value = ap frame_number (sym c.in_err-write_fresh.was ∙ c.write_fresh.ensures.0); state_after = c.write_fresh.ensures.1 }

pub returns : goal.returns
unfolding fresh_call
returns c = record { value = ap frame_number (sym c.in_ok-write_fresh.was ∙ c.write_fresh.ensures.0); state_after = c.write_fresh.ensures.1 }
