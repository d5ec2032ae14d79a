-- `frame_refusal::write_refusal` meets its contract. Assumes nothing.
use mathlib.Core.Path.{◌∙◌}
use native.Mathlib.Omega.{arith}
use Rattle.wire.proofs.Head.{room, no_room}
use Rattle.frame_refusal.specs.RefusalFrame.{refusal_frame}
use Rattle.frame_refusal.proofs.Size.{size}
use Rattle.frame_refusal.proofs.write_refusal.Goals as goal

pub returns-then-s-lt6 : goal.returns-then-s-lt6
returns-then-s-lt6 c =
    let a = c.args in
    no_room (refusal_frame a.number) a.s.now 6 (size a.number) (omega arith)

pub returns : goal.returns
returns c =
    let a = c.args in
    let r = room (refusal_frame a.number) a.s.now 6 (size a.number) (omega arith) in
    (r.0, c.put_refusal.ensures ∙ r.1)
