-- `frames_again::state_again` meets its contract. Assumes nothing.
use mathlib.Core.Path.{◌∙◌, ap}
use Rattle.frame_state.specs.StateFrame.{read_state, state_frame}
use Rattle.frame_state.proofs.Owned.{owned_typed}
use Rattle.frame_state.proofs.Trips.{value_back}
use Rattle.frames_again.proofs.Filled.{room, filled, sliced}
use Rattle.frames_again.proofs.state_again.Goals as goal

pub returns-in_err-write_state : goal.returns-in_err-write_state
returns-in_err-write_state c =
    let h = c.write_state.ensures.0 ∙ room (state_frame c.args.keeps c.args.x) _ (sliced c.args.keeps c.args.x _ c.state_size.ensures) in
    let w = c.in_err-write_state.was {u = tt} in
    absurd cc

pub returns : goal.returns
returns c =
    let x = c.args.x in
    let keeps = c.args.keeps in
    let read = c.read_state.ensures ∙ ap (read_state keeps) (c.write_state.ensures.1 ∙ filled (state_frame keeps x) _ (sliced keeps x _ c.state_size.ensures)) in
    record { accepted_again = (λ r f. read ∙ value_back keeps x (owned_typed x _ c.well_formed.0) r f); read_again = read }
