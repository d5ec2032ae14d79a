-- `frames_again::decision_again` meets its contract. Assumes nothing.
use mathlib.Core.Path.{◌∙◌, ap, sym}
use Rattle.frame_decision.specs.DecisionFrame.{read_decision, decision_frame}
use Rattle.frame_decision.proofs.Owned.{owned_typed}
use Rattle.frame_decision.proofs.Size.{size}
use Rattle.frame_decision.proofs.Trips.{value_back}
use Rattle.frames_again.proofs.Filled.{room, filled}
use Rattle.frames_again.proofs.decision_again.Goals as goal

pub returns-in_err-write_decision : goal.returns-in_err-write_decision
returns-in_err-write_decision c =
    let d = c.args.d in
    let h = c.write_decision.ensures.0 ∙ room (decision_frame d) _ (sym (size d)) in
    let w = c.in_err-write_decision.was {u = tt} in
    absurd cc

pub returns : goal.returns
returns c =
    let d = c.args.d in
    c.read_decision.ensures ∙ ap read_decision (c.write_decision.ensures.1 ∙ filled (decision_frame d) _ (sym (size d))) ∙ value_back d (owned_typed d _ c.well_formed.0)
