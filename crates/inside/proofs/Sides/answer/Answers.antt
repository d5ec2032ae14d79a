-- `Sides::answer` meets its contract. Assumes nothing.
use Rattle.std.proofs.Common.{sym, rules, tests, ◌∙◌}
use Rattle.std.proofs.lemmas.Iterator.{YieldsList-from_slice}
use Rattle.std.proofs.lemmas.Iterator.Search.{position_from_yields_List}
use Rattle.inside.specs.Inside.{is_negative}
use Rattle.inside.proofs.Stops.{found, not_found}
use Rattle.inside.proofs.Sides.answer.Goals as goal

pub returns-in-Some : goal.returns-in-Some
returns-in-Some c =
    let s = c.args.self.now in
    let t = is_negative c.args.p in
    let e = position_from_yields_List t _ _ c.position.result c.position.ensures.ran (YieldsList-from_slice s.long.now cc) (λ x b q k. search (rules, tests)) in
    (found t s.otherwise s.long.now c.in-Some.j (sym c.in-Some.is ∙ e)).1

pub returns-in-None : goal.returns-in-None
returns-in-None c =
    let s = c.args.self.now in
    let t = is_negative c.args.p in
    let e = position_from_yields_List t _ _ c.position.result c.position.ensures.ran (YieldsList-from_slice s.long.now cc) (λ x b q k. search (rules, tests)) in
    (not_found t s.otherwise s.long.now (sym c.in-None.is ∙ e)).1
