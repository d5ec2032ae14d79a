-- `config::default_fence` meets its contract. Assumes nothing.
use lib.Ieee.{of_bits, round, neg}
use Rattle.config.specs.Default.{default_fence}
use Rattle.config.proofs.default_fence.Goals as goal

pub returns : goal.returns
unfolding default_fence of_bits round neg
returns c = rw c.held.ensures
