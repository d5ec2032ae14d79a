-- `wire::u8_at` meets its contract. Assumes nothing.
use lib.ListN.{get_or-eq_default}
use mathlib.Core.Path.{refl, sym}
use Rattle.wire.specs.Fields.{u8_at}
use Rattle.wire.proofs.u8_at.Goals as goal

pub returns-then-at-s : goal.returns-then-at-s
unfolding u8_at
returns-then-at-s c = refl

pub returns-else-at-s : goal.returns-else-at-s
unfolding u8_at
returns-else-at-s c = sym (get_or-eq_default c.args.s.now 0 c.if-at-s.false)
