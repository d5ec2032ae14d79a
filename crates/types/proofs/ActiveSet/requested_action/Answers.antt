-- `types::ActiveSet::requested_action` gives the highest request. Assumes nothing.
use Rattle.std.proofs.Common.{◌≡◌, arith, sym, subst}
use Rattle.std.proofs.lemmas.Grind.{common_steps}
use Rattle.types.specs.ActiveSet.{requested_action, Highest}
use Rattle.types.proofs.Highest.{requested_is_highest}
use Rattle.types.proofs.ActiveSet.requested_action.Goals as goal

pub returns-clause-highest : goal.returns-clause-highest
unfolding requested_action
returns-clause-highest c =
    let l = c.args.self.reqs in
    let e : c.loop-slot.best ≡ requested_action l = grind (arith, common_steps) in
    subst (Highest l) (sym e) (requested_is_highest l)
