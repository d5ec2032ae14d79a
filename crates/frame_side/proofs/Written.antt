-- A Decision's frame is written, and then the side put in: the frame of kind 6 is written. Assumes nothing.
use Prim.Native.Nat.{ℕ, ◌≤◌}
use mathlib.Core.List.{List}
use mathlib.Core.Path.{◌≡◌, ◌∙◌, sym}
use native.Mathlib.Omega.{arith}
use lib.ListN.{length}
use lib.Seq.{sets}
use Rattle.types.specs.declared.Decision.{Decision}
use Rattle.wire.specs.Fields.{le8, le_flag}
use Rattle.wire.specs.Frame.{frame_head, frame_written}
use Rattle.wire.proofs.Head.{room}
use Rattle.frame_decision.specs.DecisionFrame.{decision_frame}
use Rattle.frame_decision.proofs.Size.{size as decision_size}
use Rattle.frame_side.specs.SideFrame.{side_frame}
use Rattle.frame_side.proofs.Size.{size, eligible}
use Rattle.frame_side.proofs.Splice.{put_in}

pub side_put : (d : Decision) (side : ℕ) (s : List ℕ) → 96 ≤ length s
    → sets (sets (sets (sets s 0 (decision_frame d)) 0 (frame_head 6 94)) 94 (le8 side)) 95 (le_flag d.disarm_eligible) ≡ frame_written (side_frame d side) s
unfolding side_frame
side_put d side s h =
    (λ i. sets (sets (sets (sets s 0 (decision_frame d)) 0 (frame_head 6 94)) 94 (le8 side)) 95 (eligible d i))
    ∙ put_in (decision_frame d) (decision_size d) s side
    ∙ (room (side_frame d side) s 96 (size d side) (omega arith)).1

pub side_written : (d : Decision) (side : ℕ) (s : List ℕ) → 96 ≤ length s
    → sets (sets (sets (frame_written (decision_frame d) s) 0 (frame_head 6 94)) 94 (le8 side)) 95 (le_flag d.disarm_eligible) ≡ frame_written (side_frame d side) s
side_written d side s h =
    let w = room (decision_frame d) s 95 (decision_size d) (omega arith) in
    (λ i. sets (sets (sets (sym w.1 i) 0 (frame_head 6 94)) 94 (le8 side)) 95 (le_flag d.disarm_eligible)) ∙ side_put d side s h
