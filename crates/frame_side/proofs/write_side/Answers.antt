-- `frame_side::write_side` meets its contract. Assumes nothing.
use mathlib.Core.Path.{◌∙◌}
use native.Mathlib.Omega.{arith}
use lib.Seq.{sets}
use Rattle.wire.specs.Fields.{le8, le_flag}
use Rattle.wire.specs.Frame.{frame_head}
use Rattle.wire.proofs.Head.{room, no_room}
use Rattle.frame_side.specs.SideFrame.{side_frame}
use Rattle.frame_side.proofs.Size.{size}
use Rattle.frame_side.proofs.Written.{side_put}
use Rattle.frame_side.proofs.write_side.Goals as goal

pub returns-then-s-lt96 : goal.returns-then-s-lt96
returns-then-s-lt96 c =
    let a = c.args in
    no_room (side_frame a.d a.side) a.s.now 96 (size a.d a.side) (omega arith)

pub returns : goal.returns
returns c =
    let a = c.args in
    let w = c.put_decision.ensures in
    let r = room (side_frame a.d a.side) a.s.now 96 (size a.d a.side) (omega arith) in (
      r.0,
      c.put_side.ensures
          ∙ (λ i. sets (sets (sets (w i) 0 (frame_head 6 94)) 94 (le8 a.side)) 95 (le_flag a.d.disarm_eligible))
          ∙ side_put a.d a.side a.s.now (omega arith),
    )
