-- `wire::u16_at` meets its contract. Assumes nothing.
use Rattle.wire.specs.Fields.{u8_at, u16_at}
use mathlib.Core.Path.{sym}
use Rattle.wire.proofs.Past.{number_past}
use Rattle.wire.proofs.Number.{u16_is}
use Rattle.wire.proofs.u16_at.Goals as goal

pub returns-then-at-s : goal.returns-then-at-s
unfolding u8_at
returns-then-at-s c = cc (u16_is c.args.s.now c.args.at)

pub returns-else-at-s : goal.returns-else-at-s
unfolding u16_at
returns-else-at-s c = sym (number_past 2 c.args.s.now c.args.at c.if-at-s.false)
