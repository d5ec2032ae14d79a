-- `float32::low_root` meets its contract. Assumes nothing.
use native.Mathlib.Omega.{arith}
use Rattle.float32.proofs.Guess.{cut}
use Rattle.float32.proofs.low_root.Goals as goal

pub returns : goal.returns
returns c = cut c.args.m c.args.z (omega arith) c.requires.3
