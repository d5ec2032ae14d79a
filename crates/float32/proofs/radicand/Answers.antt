-- `float32::radicand` meets its contract, by the parity of the exponent. Assumes nothing.
use Rattle.float32.proofs.Round.{doubled, single}
use Rattle.float32.proofs.radicand.Goals as goal

pub returns-then-t-lt8388608 : goal.returns-then-t-lt8388608
returns-then-t-lt8388608 c = doubled c.args.b c.if-t-lt8388608.true

pub returns-else-t-lt8388608 : goal.returns-else-t-lt8388608
returns-else-t-lt8388608 c = single c.args.b c.if-t-lt8388608.false
