-- `frame_decision::write_decision` meets its contract. Assumes nothing.
use mathlib.Core.Path.{◌∙◌}
use native.Mathlib.Omega.{arith}
use Rattle.wire.proofs.Head.{room, no_room}
use Rattle.frame_decision.specs.DecisionFrame.{decision_frame}
use Rattle.frame_decision.proofs.Size.{size}
use Rattle.frame_decision.proofs.write_decision.Goals as goal

pub returns-then-s-lt95 : goal.returns-then-s-lt95
returns-then-s-lt95 c =
    let a = c.args in
    no_room (decision_frame a.d) a.s.now 95 (size a.d) (omega arith)

pub returns : goal.returns
returns c =
    let a = c.args in
    let r = room (decision_frame a.d) a.s.now 95 (size a.d) (omega arith) in
    (r.0, c.put_decision.ensures ∙ r.1)
