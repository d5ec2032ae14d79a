-- `frame_state::put_state` meets its contract: the calls' contracts, one after the other, are a run of stores. Assumes nothing.
use Prim.Native.Nat.{ℕ}
use mathlib.Core.Path.{◌≡◌, ◌∙◌, refl}
use mathlib.Core.Bool.{Bool, true, false}
use mathlib.Core.List.{List, [], ◌∷◌}
use lib.ListN.{length}
use lib.Seq.{sets}
use Rattle.wire.specs.Fields.{le8, le_flag, le_bytes, le16, le32, le_f32}
use Rattle.wire.specs.Frame.{frame_head}
use Rattle.wire.proofs.Laid.{zeroed}
use Rattle.wire.proofs.Over.{over_present}
use Rattle.wire.proofs.Stores.{Piece, put, after, done, into, ran}
use Rattle.options.specs.Options.{le_option_u32}
use Rattle.options.specs.Position.{le_vec3, le_position, le_option_position}
use Rattle.options.specs.Enums.{le_action, le_reason}
use Rattle.triggers.specs.declared.TriggerState.{TriggerState}
use Rattle.supervisor.specs.declared.Supervisor.{Supervisor}
use Rattle.frame_state.specs.StateFrame.{state_kind, state_length, le_raised, le_kept, le_timer, le_links, le_fence, le_battery, le_input, le_triggers, le_arbiter, state_frame}
use Rattle.frame_state.proofs.put_state.Goals as goal

abbrev pieces : ℕ → ℕ → Bool → Supervisor → List Piece
pieces kind len keeps x =
    put 0 (frame_head kind len) ∷
    put 4 (le_triggers x.triggers) ∷
    put 133 (le_arbiter x.arbiter) ∷
    put 140 (le_option_u32 x.disarm.hold_since_ms) ∷
    put 145 (le_option_position x.glitch.last_accepted) ∷
    put 174 (le8 x.glitch.reject_streak) ∷
    put 175 (le_option_u32 x.last_now) ∷
    put 180 (le32 x.epoch_start) ∷
    put 184 (le8 x.backwards_streak) ∷
    put 185 (le_flag x.initialized) ∷
    put 186 (le_kept keeps x.triggers.raised) ∷
    []

flat : (l : List ℕ) (keeps : Bool) (x : Supervisor) → after l (pieces (state_kind keeps) (state_length keeps) keeps x) ≡ sets l 0 (state_frame keeps x)
unfolding state_frame le_raised frame_head le_triggers le_links le_fence le_battery le_input le_timer le_arbiter le_action le_reason le_option_u32 le_option_position le_vec3 le_f32 le8 le16 le32 le_bytes le_flag
flat l true x = refl
flat l false x = refl

wide : (t : TriggerState) → length (le_triggers t) ≡ 129
unfolding le_triggers le_links le_fence le_battery le_input le_timer le_option_u32 le8 le32 le_bytes le_flag
wide t = refl

pub put_triggers-requires : goal.put_triggers-requires
put_triggers-requires c = zeroed c.put_head.new.s 4 129 c.put_zeros.ensures

pub returns : goal.returns
unfolding le_option_u32 le_option_position le_position
returns c =
    let a = c.args in
    ran a.s.now (pieces c.state_kind.result c.state_length.result a.keeps a.x) _
    (into c.put_head.ensures
    (into (over_present le_triggers 4 129 _ wide c.put_zeros.ensures c.put_triggers.ensures refl)
    (into c.put_arbiter.ensures
    (into c.put_option.ensures
    (into c.put_option-2.ensures
    (into c.put_u8.ensures
    (into c.put_option-3.ensures
    (into c.put_u32.ensures
    (into c.put_u8-2.ensures
    (into c.put_flag.ensures
    (into c.put_kept.ensures
    done)))))))))))
    ∙ (λ i. after a.s.now (pieces (c.state_kind.ensures i) (c.state_length.ensures i) a.keeps a.x))
    ∙ flat a.s.now a.keeps a.x
