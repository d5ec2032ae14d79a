use mathlib.Core.Path.{◌≡◌, ap, refl, ◌∙◌}
use mathlib.Core.List.{List, [], ◌∷◌}
use Prim.Native.Nat.{ℕ}
use native.Mathlib.Omega.{arith}
use lib.Ieee.{to_bits, of_bits}
use lib.Seq.{sets}
use Rattle.wire.specs.Fields.{u8_at, le8, le_flag, le_bytes, le16, le32, le_f32}
use Rattle.wire.specs.Frame.{frame_number, frame_head}
use Rattle.wire.proofs.Head.{room, no_room}
use Rattle.wire.proofs.Stores.{Piece, put, after, done, into, ran}
use Rattle.options.specs.Options.{le_option_u32}
use Rattle.options.specs.Position.{le_vec3, le_option_position}
use Rattle.options.specs.Enums.{le_action, le_reason}
use Rattle.triggers.specs.Update.{fresh_triggers}
use Rattle.frame_state.specs.StateFrame.{le_timer, le_links, le_fence, le_battery, le_input, le_triggers, le_arbiter, state_frame}
use Rattle.instants.specs.Own.{instants_of}
use Rattle.instants.specs.Listed.{listed}
use Rattle.frame_wide.specs.Resized.{widened}
use lib.ListN.{replicate}
use Rattle.supervisor.specs.Step.{fresh_supervisor}
use Rattle.frame_wide.specs.WideState.{state_gaps, wide_state_frame}
use Rattle.frame_wide_trips.proofs.Claim.{state_laws}
use Rattle.calls.specs.Entry.{fresh_call}
use Rattle.entries.proofs.fresh_wide.Goals as goal

abbrev pieces : List Piece
pieces = put 0 (frame_head 10 304) ∷ put 4 (replicate 302 0) ∷ []

flat : (l : List ℕ) → after l pieces ≡ sets l 0 (wide_state_frame fresh_supervisor)
unfolding wide_state_frame widened state_gaps listed instants_of state_frame fresh_supervisor fresh_triggers frame_head le_triggers le_links le_fence le_battery le_input le_timer le_arbiter le_action le_reason le_option_u32 le_option_position le_vec3 le_f32 le8 le16 le32 le_bytes le_flag to_bits of_bits u8_at
flat l = refl

pub returns-then-state-lt306 : goal.returns-then-state-lt306
unfolding fresh_call
returns-then-state-lt306 c =
    let n = no_room (wide_state_frame fresh_supervisor) c.args.state.now 306 (state_laws.size fresh_supervisor) c.if-state-lt306.true in
    record { value = ap frame_number n.0; state_after = n.1 }

pub returns : goal.returns
unfolding fresh_call
returns c =
    let a = c.args in
    let l = a.state.now in
    let r = room (wide_state_frame fresh_supervisor) l 306 (state_laws.size fresh_supervisor) (let e = c.if-state-lt306.false in omega arith) in
    record { value = ap frame_number r.0; state_after = ran l pieces _ (into c.put_head.ensures (into c.put_zeros.ensures done)) ∙ flat l ∙ r.1 }
