-- `entries::write_output` meets its contract. Assumes nothing.
use Prim.Native.Nat.{◌≤◌}
use mathlib.Core.Path.{◌∙◌, subst}
use mathlib.Core.Bool.{Bool}
use lib.ListN.{length}
use lib.Seq.{sets}
use Rattle.wire.specs.Fields.{le8, le_flag}
use Rattle.wire.specs.Frame.{frame_head}
use Rattle.wire.proofs.Head.{room}
use Rattle.frame_decision.specs.DecisionFrame.{decision_frame}
use Rattle.frame_decision.proofs.Size.{size as decision_size}
use Rattle.frame_side.specs.SideFrame.{side_frame}
use Rattle.frame_side.proofs.Size.{size as side_size}
use Rattle.frame_side.proofs.Written.{side_put}
use Rattle.calls.specs.Entry.{output_size}
use Rattle.entries.proofs.Buffers.{frame_written_lem}
use Rattle.entries.proofs.write_output.Goals as goal

pub returns-then-with_side : goal.returns-then-with_side
returns-then-with_side c =
    let o = c.args.output.now in
    let d = c.args.d.now in
    let taken = c.if-with_side.true in
    let w = c.put_decision.ensures in
    let long = subst (λ (b : Bool). output_size b ≤ length o) taken c.requires in
    rw taken
    (c.put_side.ensures
    ∙ (λ i. sets (sets (sets (w i) 0 (frame_head 6 94)) 94 (le8 c.args.side)) 95 (le_flag d.disarm_eligible))
    ∙ side_put d c.args.side o long
    ∙ frame_written_lem (side_frame d c.args.side) o 96 (side_size d c.args.side) long)

pub returns-else-with_side : goal.returns-else-with_side
returns-else-with_side c =
    let o = c.args.output.now in
    let left = c.if-with_side.false in
    let d = c.args.d.now in
    let long = subst (λ (b : Bool). output_size b ≤ length o) left c.requires in
    rw left (c.put_decision.ensures ∙ (room (decision_frame d) o 95 (decision_size d) long).1 ∙ frame_written_lem (decision_frame d) o 95 (decision_size d) long)
