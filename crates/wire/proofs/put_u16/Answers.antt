-- `wire::put_u16` meets its contract. Assumes nothing.
use Rattle.wire.specs.Fields.{le8, le16}
use mathlib.Core.Path.{sym}
use native.Mathlib.Numerals.{add-one}
use Rattle.wire.proofs.Past.{sets_past}
use Rattle.wire.proofs.Number.{le16_is}
use Rattle.wire.proofs.put_u16.Goals as goal

pub returns-then-at-s : goal.returns-then-at-s
unfolding le8
returns-then-at-s c = rw (le16_is c.args.n) (cc (add-one c.args.at))

pub returns-else-at-s : goal.returns-else-at-s
returns-else-at-s c = sym (sets_past c.args.s.now c.args.at (le16 c.args.n) c.if-at-s.false)
