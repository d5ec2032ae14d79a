-- `float32::to_bits` meets its contract. Assumes nothing.
use mathlib.Core.Path.{sym, ap}
use mathlib.Core.Bool.{not}
use lib.Ieee.{binary32, ne, to_bits}
use Rattle.float32.proofs.Libm.{differing}
use Rattle.float32.proofs.to_bits.Goals as goal

pub returns-else-x : goal.returns-else-x
unfolding ne to_bits
returns-else-x c = sym (ap (to_bits binary32) (differing c.args.x (ap not c.if-x.false)))
