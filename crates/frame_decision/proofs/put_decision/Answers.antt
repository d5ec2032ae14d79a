-- `frame_decision::put_decision` meets its contract: the calls' contracts, one after the other, are a run of stores. Assumes nothing.
use Prim.Native.Nat.{ℕ}
use mathlib.Core.Path.{◌≡◌, ◌∙◌, refl}
use mathlib.Core.List.{List, [], ◌∷◌}
use lib.Seq.{sets}
use Rattle.wire.specs.Fields.{le8, le_flag, le_bytes, le16, le32, le_f32}
use Rattle.wire.specs.Frame.{frame_head}
use Rattle.wire.proofs.Stores.{Piece, put, after, done, into, ran}
use Rattle.options.specs.Options.{le_option_f32}
use Rattle.options.specs.Enums.{le_action, le_reason}
use Rattle.types.specs.declared.Decision.{Decision}
use Rattle.frame_decision.specs.Slots.{le_slot, le_slots}
use Rattle.frame_decision.specs.DecisionFrame.{le_estimate, decision_frame}
use Rattle.frame_decision.proofs.put_decision.Goals as goal

abbrev pieces : Decision → List Piece
pieces d =
    put 0 (frame_head 4 93) ∷
    put 4 (le_action d.action) ∷
    put 5 (le_reason d.reason) ∷
    put 6 (le_action d.requested) ∷
    put 7 (le_slots 19 d.active.reqs) ∷
    put 64 (le_flag d.position_valid) ∷
    put 65 (le_flag d.clock_fault) ∷
    put 66 (le_estimate d.energy) ∷
    put 89 (le_option_f32 d.fence_dist_m) ∷
    put 94 (le_flag d.disarm_eligible) ∷
    []

flat : (l : List ℕ) (d : Decision) → after l (pieces d) ≡ sets l 0 (decision_frame d)
unfolding decision_frame frame_head le_action le_reason le_slots le_slot le_estimate le_option_f32 le_f32 le8 le16 le32 le_bytes le_flag
flat l d = refl

pub returns : goal.returns
unfolding le_option_f32
returns c =
    let a = c.args in
    ran a.s.now (pieces a.d) _
    (into c.put_head.ensures
    (into c.put_action.ensures
    (into c.put_reason.ensures
    (into c.put_action-2.ensures
    (into c.put_slots.ensures
    (into c.put_flag.ensures
    (into c.put_flag-2.ensures
    (into c.put_estimate.ensures
    (into c.put_option.ensures
    (into c.put_flag-3.ensures
    done))))))))))
    ∙ flat a.s.now a.d
