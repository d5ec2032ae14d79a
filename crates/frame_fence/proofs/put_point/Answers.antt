-- `frame_fence::put_point` meets its contract. Assumes nothing.
use Rattle.wire.specs.Fields.{le_bytes, le32, le_f32}
use Rattle.wire.proofs.Stores.{joined}
use Rattle.frame_fence.proofs.put_point.Goals as goal

pub returns : goal.returns
unfolding le_f32 le32 le_bytes
returns c =
    let a = c.args in
    joined a.s.now a.at (le_f32 a.p.n) (le_f32 a.p.e) c.put_f32.ensures c.put_f32-2.ensures
