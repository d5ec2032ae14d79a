-- `frame_state::write_fresh` meets its contract: a fresh state's body is zero bytes alone. Assumes nothing.
use Prim.Native.Nat.{ℕ, ◌+◌, ◌-◌}
use mathlib.Core.Path.{◌≡◌, ◌∙◌, refl}
use mathlib.Core.Bool.{Bool, true, false}
use mathlib.Core.List.{List, [], ◌∷◌}
use native.Mathlib.Omega.{arith}
use lib.ListN.{replicate}
use lib.Ieee.{to_bits, of_bits}
use lib.Seq.{sets}
use Rattle.wire.specs.Fields.{le8, le_flag, le_bytes, le16, le32, le_f32}
use Rattle.wire.specs.Frame.{frame_head}
use Rattle.wire.proofs.Head.{room, no_room}
use Rattle.wire.proofs.Stores.{Piece, put, after, done, into, ran}
use Rattle.options.specs.Options.{le_option_u32}
use Rattle.options.specs.Position.{le_vec3, le_option_position}
use Rattle.options.specs.Enums.{le_action, le_reason}
use Rattle.triggers.specs.Update.{fresh_triggers}
use Rattle.supervisor.specs.Step.{fresh_supervisor}
use Rattle.frame_state.specs.StateFrame.{state_kind, state_length, le_raised, le_timer, le_links, le_fence, le_battery, le_input, le_triggers, le_arbiter, state_frame}
use Rattle.frame_state.proofs.Size.{size}
use Rattle.frame_state.proofs.write_fresh.Goals as goal

abbrev pieces : ℕ → ℕ → ℕ → List Piece
pieces kind len size = put 0 (frame_head kind len) ∷ put 4 (replicate (size - 4) 0) ∷ []

flat : (l : List ℕ) (keeps : Bool) → after l (pieces (state_kind keeps) (state_length keeps) (2 + state_length keeps)) ≡ sets l 0 (state_frame keeps fresh_supervisor)
unfolding state_frame le_raised fresh_supervisor fresh_triggers frame_head le_triggers le_links le_fence le_battery le_input le_timer le_arbiter le_action le_reason le_option_u32 le_option_position le_vec3 le_f32 le8 le16 le32 le_bytes le_flag to_bits of_bits
flat l true = refl
flat l false = refl

pub returns-then-s-size : goal.returns-then-s-size
returns-then-s-size c =
    let a = c.args in
    no_room (state_frame a.keeps fresh_supervisor) a.s.now _ (size a.keeps fresh_supervisor) (let e = c.state_size-size.ensures in omega arith)

pub returns : goal.returns
returns c =
    let a = c.args in
    let l = a.s.now in
    let r = room (state_frame a.keeps fresh_supervisor) l _ (size a.keeps fresh_supervisor) (let e = c.state_size-size.ensures in omega arith) in (
      r.0,
      ran l (pieces c.state_kind.result c.state_length.result c.state_size-size.result) _ (into c.put_head.ensures (into c.put_zeros.ensures done))
          ∙ (λ i. after l (pieces (c.state_kind.ensures i) (c.state_length.ensures i) (c.state_size-size.ensures i)))
          ∙ flat l a.keeps
          ∙ r.1,
    )
