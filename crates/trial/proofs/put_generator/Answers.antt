-- `trial::put_generator` meets its contract. Assumes nothing.
use Rattle.std.proofs.Common.{◌++◌}
use Rattle.wire.specs.Fields.{le_bytes, le32, le_flag}
use Rattle.wire.proofs.Stores.{joined}
use Rattle.trial.specs.Call.{generator_bytes}
use Rattle.trial.proofs.put_generator.Goals as goal

pub returns : goal.returns
unfolding generator_bytes le_bytes le32 le_flag
returns c =
    let a = c.args in
    let l = a.s.now in
    let two = joined l 0 (le32 a.g.x) (le32 a.g.now_ms) c.put_u32.ensures c.put_u32-2.ensures in
    joined l 0 (le32 a.g.x ++ le32 a.g.now_ms) (le_flag a.g.begun) two c.put_flag.ensures
