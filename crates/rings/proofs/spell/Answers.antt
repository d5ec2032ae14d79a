-- `spell` meets its contract. Assumes nothing.
use Rattle.rings.specs.Spelling.{spelled}
use Rattle.rings.proofs.spell.Goals as goal

pub returns : goal.returns
unfolding spelled
returns c = rw (c.go_onward.ensures, c.start_at.ensures, c.least_at-least.ensures.place)
