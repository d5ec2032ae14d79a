-- `frame_refusal::put_refusal` meets its contract. Assumes nothing.
use Rattle.wire.specs.Fields.{le_bytes, le16}
use Rattle.wire.specs.Frame.{frame_head}
use Rattle.wire.proofs.Stores.{joined}
use Rattle.frame_refusal.specs.RefusalFrame.{refusal_frame}
use Rattle.frame_refusal.proofs.put_refusal.Goals as goal

pub returns : goal.returns
unfolding refusal_frame frame_head le_bytes le16
returns c =
    let a = c.args in
    joined a.s.now 0 (frame_head 255 4) (le16 a.number) c.put_head.ensures c.put_u16.ensures
