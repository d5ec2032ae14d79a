-- `frame_wide::state_instants` meets its contract. Assumes nothing.
use mathlib.Core.Path.{◌∙◌}
use Rattle.frame_wide.specs.WideState.{state_gaps}
use Rattle.frame_wide.proofs.Places.{read_at_places}
use Rattle.frame_wide.proofs.state_instants.Goals as goal

pub returns : goal.returns
unfolding state_gaps
returns c = c.instants.ensures ∙ read_at_places state_gaps c.args.s.now 4
