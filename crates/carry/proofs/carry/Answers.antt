-- `carry::carry` meets its contract. Assumes nothing.
use Rattle.std.specs.Prelude.{Ok}
use Rattle.std.proofs.Common.{ℕ, List, sym, ap, ◌∙◌, ne_eqb}
use Rattle.options.specs.Options.{option_u32_at}
use Rattle.carry.specs.Carry.{last_is}
use Rattle.carry.proofs.Carried.{turned_away, too_old, taken}
use Rattle.carry.proofs.carry.Goals as goal

pub returns-in_default : goal.returns-in_default
unfolding option_u32_at
returns-in_default c = turned_away _ _ (ap (last_is c.args.t) (sym c.option_at.ensures ∙ c.in-Some.is) ∙ ne_eqb _ _ (λ e. c.if-from-t.false (c.from.ensures ∙ sym e)))

pub returns-in_default-2 : goal.returns-in_default-2
unfolding option_u32_at
returns-in_default-2 c = turned_away _ _ (ap (last_is c.args.t) (sym c.option_at.ensures ∙ c.in_default.is))

pub returns-then-not-have_ages : goal.returns-then-not-have_ages
unfolding option_u32_at
returns-then-not-have_ages c =
    too_old _ _ (sym c.option_at.ensures ∙ c.in-Some.is) (sym c.from.ensures ∙ c.if-from-t.true) (sym c.have_ages.ensures ∙ c.if-not-have_ages.true)

pub returns : goal.returns
unfolding option_u32_at
returns c =
    ap (λ (l : List ℕ). Ok l) c.stored.ensures
    ∙ taken _ _ (sym c.option_at.ensures ∙ c.in-Some.is) (sym c.from.ensures ∙ c.if-from-t.true) (sym c.have_ages.ensures ∙ c.if-not-have_ages.false)
