-- `frame_wide::telemetry_instants` meets its contract. Assumes nothing.
use mathlib.Core.Path.{◌∙◌}
use Rattle.frame_wide.specs.WideTelemetry.{telemetry_gaps}
use Rattle.frame_wide.proofs.Places.{read_at_places}
use Rattle.frame_wide.proofs.telemetry_instants.Goals as goal

pub returns : goal.returns
unfolding telemetry_gaps
returns c = c.instants.ensures ∙ read_at_places telemetry_gaps c.args.s.now 4
