-- `frame_state::put_arbiter` meets its contract: the calls' contracts, one after the other, are a run of stores. Assumes nothing.
use Prim.Native.Nat.{ℕ}
use mathlib.Core.Path.{◌≡◌, ◌∙◌, refl}
use mathlib.Core.List.{List, [], ◌∷◌}
use lib.Seq.{sets}
use Rattle.wire.specs.Fields.{le8, le_flag, le_bytes, le32}
use Rattle.wire.proofs.Stores.{Piece, put, after, done, into, ran}
use Rattle.options.specs.Options.{le_option_u32}
use Rattle.options.specs.Enums.{le_action, le_reason}
use Rattle.arbiter.specs.declared.ArbiterState.{ArbiterState}
use Rattle.frame_state.specs.StateFrame.{le_arbiter}
use Rattle.frame_state.proofs.put_arbiter.Goals as goal

abbrev pieces : ArbiterState → List Piece
pieces a =
    put 133 (le_action a.prev_output) ∷
    put 134 (le_reason a.prev_reason) ∷
    put 135 (le_option_u32 a.recovery_since_ms) ∷
    []

flat : (l : List ℕ) (a : ArbiterState) → after l (pieces a) ≡ sets l 133 (le_arbiter a)
unfolding le_arbiter le_action le_reason le_option_u32 le8 le32 le_bytes le_flag
flat l a = refl

pub returns : goal.returns
unfolding le_option_u32
returns c =
    let a = c.args in
    ran a.s.now (pieces a.a) _
    (into c.put_action.ensures
    (into c.put_reason.ensures
    (into c.put_option.ensures
    done)))
    ∙ flat a.s.now a.a
