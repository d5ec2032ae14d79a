-- `whole_energy::within_limits` meets its contract. Assumes nothing.
use Rattle.std.proofs.Common.{arith}
use Rattle.std.proofs.lemmas.Int.{to_z-of_z}
use Rattle.whole_energy.specs.Input.{within_limits}
use Rattle.whole_energy.proofs.within_limits.Goals as goal

pub returns : goal.returns
unfolding within_limits
returns c = grind (arith, to_z-of_z)
