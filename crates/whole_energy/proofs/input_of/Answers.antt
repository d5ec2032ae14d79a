-- `whole_energy::input_of` meets its contract. Assumes nothing.
use Rattle.std.proofs.Common.{arith}
use Rattle.std.proofs.lemmas.Int.{to_z-of_z}
use Rattle.whole_energy.proofs.input_of.Goals as goal

pub returns : goal.returns
returns c = grind (arith, to_z-of_z)
