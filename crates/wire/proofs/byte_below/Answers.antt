-- `wire::byte_below` meets its contract. Assumes nothing.
use Rattle.wire.specs.Fields.{byte_below}
use Rattle.wire.proofs.byte_below.Goals as goal

pub returns : goal.returns
unfolding byte_below
returns c = cc
