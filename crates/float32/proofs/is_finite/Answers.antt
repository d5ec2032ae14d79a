-- `float32::is_finite` meets its contract. Assumes nothing.
use Rattle.float32.proofs.Libm.{finite_between}
use Rattle.float32.proofs.is_finite.Goals as goal

pub returns : goal.returns
returns c = rw c.infinity-top.ensures (finite_between c.args.x)
