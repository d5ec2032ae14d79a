-- `wire::put_head` meets its contract. Assumes nothing.
use Rattle.wire.specs.Fields.{le16, le_bytes}
use Rattle.wire.specs.Frame.{frame_head}
use Rattle.wire.proofs.Stores.{joined}
use Rattle.wire.proofs.put_head.Goals as goal

pub returns : goal.returns
unfolding frame_head le16 le_bytes
returns c =
    let a = c.args in
    joined a.s.now 0 (le16 a.len) (le16 a.kind) c.put_u16.ensures c.put_u16-2.ensures
