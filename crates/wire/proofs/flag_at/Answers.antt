-- `wire::flag_at` meets its contract. Assumes nothing.
use Rattle.wire.specs.Fields.{flag_at}
use Rattle.wire.proofs.flag_at.Goals as goal

pub returns : goal.returns
unfolding flag_at
returns c = cc
