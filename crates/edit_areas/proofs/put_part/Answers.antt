-- `edit_areas::put_part` meets its contract. Assumes nothing.
use mathlib.Core.Path.{refl}
use Rattle.edit_areas.proofs.Stores.{part_stored}
use Rattle.edit_areas.proofs.put_part.Goals as goal

pub returns : goal.returns
returns c =
    part_stored c.args.s.now c.args.part.now c.args.at c.requires refl c.copy.ensures.1
