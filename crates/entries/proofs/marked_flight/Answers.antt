use mathlib.Core.Path.{refl}
use Rattle.entries.proofs.marked_flight.Goals as goal

pub returns : goal.returns
returns c = rw c.mark_config.ensures refl
