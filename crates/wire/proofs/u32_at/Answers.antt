-- `wire::u32_at` meets its contract. Assumes nothing.
use Rattle.wire.specs.Fields.{u8_at, u32_at}
use mathlib.Core.Path.{sym}
use Rattle.wire.proofs.Past.{number_past}
use Rattle.wire.proofs.Number.{u32_is, u32_halves}
use Rattle.wire.proofs.u32_at.Goals as goal

pub returns-then-at-s-2 : goal.returns-then-at-s-2
unfolding u8_at
returns-then-at-s-2 c = cc (u32_is c.args.s.now c.args.at)

pub returns-else-at-s-2 : goal.returns-else-at-s-2
returns-else-at-s-2 c = cc (u32_halves c.args.s.now c.args.at)

pub returns-else-at-s : goal.returns-else-at-s
unfolding u32_at
returns-else-at-s c = sym (number_past 4 c.args.s.now c.args.at c.if-at-s.false)
