-- `carry::instants` meets its contract. Assumes nothing.
use Rattle.std.specs.Prelude.{Option, unwrap_or}
use Rattle.std.proofs.Common.{ℕ, ap, ◌∙◌}
use Rattle.options.specs.Options.{option_u32_at}
use Rattle.carry.specs.Held.{stored}
use Rattle.carry.proofs.Carried.{own_is, stored_is}
use Rattle.carry.proofs.instants.Goals as goal

pub returns : goal.returns
unfolding option_u32_at
returns c =
    let old = c.args.old.now in
    let last = c.unwrap_or-last.ensures ∙ ap (λ (o : Option ℕ). unwrap_or o 0) c.option_at.ensures ∙ own_is (option_u32_at old 175) in
    c.stored.ensures ∙ ap (λ (x : ℕ). stored old (record { t = c.args.last_now; last = x })) last ∙ stored_is old c.args.last_now
