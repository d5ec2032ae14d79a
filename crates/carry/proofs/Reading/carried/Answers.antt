-- `carry::Reading::carried` meets its contract. Assumes nothing.
use Rattle.std.proofs.Common.{rules}
use Rattle.time.specs.Time.{wrapping_sub}
use Rattle.carry.proofs.Reading.carried.Goals as goal

pub returns : goal.returns
unfolding wrapping_sub
returns c = search rules
