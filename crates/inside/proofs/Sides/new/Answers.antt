-- `Sides::new` meets its contract. Assumes nothing.
use Rattle.std.proofs.Common.{sym, rules, tests, ◌∙◌}
use Rattle.std.proofs.lemmas.Iterator.{YieldsList-from_slice}
use Rattle.std.proofs.lemmas.Iterator.Search.{position_from_yields_List}
use Rattle.inside.specs.Inside.{is_short}
use Rattle.inside.proofs.Stops.{some_short, none_short}
use Rattle.inside.proofs.Sides.new.Goals as goal

pub returns-in-Some-clause-value : goal.returns-in-Some-clause-value
returns-in-Some-clause-value c =
    let l = c.args.sides.now in
    let e = position_from_yields_List is_short _ _ c.position.result c.position.ensures.ran (YieldsList-from_slice l cc) (λ x b q k. search (rules, tests)) in
    λ p. some_short l p c.if-sides-lt3.false c.in-Some.i (sym c.in-Some.is ∙ e)

pub returns-in-None-clause-value : goal.returns-in-None-clause-value
returns-in-None-clause-value c =
    let l = c.args.sides.now in
    let e = position_from_yields_List is_short _ _ c.position.result c.position.ensures.ran (YieldsList-from_slice l cc) (λ x b q k. search (rules, tests)) in
    λ p. none_short l p c.if-sides-lt3.false (sym c.in-None.is ∙ e)
