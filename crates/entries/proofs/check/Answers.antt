-- `entries::check` meets its contract. Assumes nothing.
use mathlib.Core.Path.{◌∙◌}
use Rattle.flight.specs.Flight.{read_flight}
use Rattle.calls.specs.Entry.{step_or_check}
use Rattle.entries.proofs.Flown.{checked_alone}
use Rattle.entries.proofs.check.Goals as goal

pub returns : goal.returns
unfolding step_or_check
returns c = c.step_or_check.ensures.value ∙ checked_alone (read_flight c.args.config.now c.args.fence.now)
