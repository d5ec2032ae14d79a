-- `wire::put_u8` meets its contract. Assumes nothing.
use lib.Seq.{set_out}
use mathlib.Core.Path.{refl, sym}
use Rattle.wire.specs.Fields.{le8}
use Rattle.wire.proofs.put_u8.Goals as goal

pub returns-then-at-s : goal.returns-then-at-s
unfolding le8
returns-then-at-s c = refl

pub returns-else-at-s : goal.returns-else-at-s
unfolding le8
returns-else-at-s c = sym (set_out c.args.s.now _ _ c.if-at-s.false)
