-- `frame_decision::put_estimate` meets its contract: the calls' contracts, one after the other, are a run of stores. Assumes nothing.
use Prim.Native.Nat.{ℕ}
use mathlib.Core.Path.{◌≡◌, ◌∙◌, refl}
use mathlib.Core.List.{List, [], ◌∷◌}
use lib.Seq.{sets}
use Rattle.wire.specs.Fields.{le_flag, le_bytes, le32, le_f32}
use Rattle.wire.proofs.Stores.{Piece, put, after, done, into, ran}
use Rattle.options.specs.Options.{le_option_f32}
use Rattle.types.specs.declared.EnergyEstimate.{EnergyEstimate}
use Rattle.frame_decision.specs.DecisionFrame.{le_estimate}
use Rattle.frame_decision.proofs.put_estimate.Goals as goal

abbrev pieces : EnergyEstimate → List Piece
pieces e =
    put 66 (le_f32 e.rtl_wh) ∷
    put 70 (le_f32 e.land_wh) ∷
    put 74 (le_f32 e.reserve_wh) ∷
    put 78 (le_option_f32 e.remaining_wh) ∷
    put 83 (le_option_f32 e.margin_wh) ∷
    put 88 (le_flag e.insufficient_for_landing) ∷
    []

flat : (l : List ℕ) (e : EnergyEstimate) → after l (pieces e) ≡ sets l 66 (le_estimate e)
unfolding le_estimate le_option_f32 le_f32 le32 le_bytes le_flag
flat l e = refl

pub returns : goal.returns
unfolding le_option_f32
returns c =
    let a = c.args in
    ran a.s.now (pieces a.e) _
    (into c.put_f32.ensures
    (into c.put_f32-2.ensures
    (into c.put_f32-3.ensures
    (into c.put_option.ensures
    (into c.put_option-2.ensures
    (into c.put_flag.ensures
    done))))))
    ∙ flat a.s.now a.e
