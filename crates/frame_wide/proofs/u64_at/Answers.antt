-- `frame_wide::u64_at` meets its contract. Assumes nothing.
use mathlib.Core.Path.{sym}
use Rattle.wire.proofs.Past.{number_past}
use Rattle.frame_wide.proofs.Eight.{u64_halves}
use Rattle.frame_wide.proofs.u64_at.Goals as goal

pub returns-then-at-s-2 : goal.returns-then-at-s-2
returns-then-at-s-2 c = let a = c.args in cc (u64_halves a.s.now a.at)

pub returns-else-at-s-2 : goal.returns-else-at-s-2
returns-else-at-s-2 c = let a = c.args in sym (number_past 8 a.s.now a.at c.if-at-s-2.false)
