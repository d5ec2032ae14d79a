-- The loop of `types::ActiveSet::requested_action`. Assumes nothing.
use Rattle.std.proofs.Common.{◌≡◌, drop}
use Rattle.types.specs.ActiveSet.{highest, nominal}
use Rattle.types.proofs.ActiveSet.requested_action.Given as goal

abbrev pub invariant-loop-slot : goal.invariant-loop-slot
invariant-loop-slot l = highest l.best (drop l.slot-index l.slot-items) ≡ highest nominal l.fn.self.reqs
