-- `flat_turn` meets its contract. Assumes nothing.
use lib.Dec.{lit<}
use lib.Ieee.{of_bits, neg}
use Rattle.corners.specs.Acceptance.{flat_turn}
use Rattle.corners.proofs.Bounds.{size_below}
use Rattle.corners.proofs.flat_turn.Goals as goal

pub returns : goal.returns
unfolding flat_turn of_bits neg
returns c = size_below _ _ (lit< tt) _
