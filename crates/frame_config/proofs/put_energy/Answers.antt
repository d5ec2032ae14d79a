-- `frame_config::put_energy` meets its contract: the calls' contracts, one after the other, are a run of stores. Assumes nothing.
use Prim.Native.Nat.{ℕ}
use mathlib.Core.Path.{◌≡◌, ◌∙◌, refl}
use mathlib.Core.List.{List, [], ◌∷◌}
use lib.Seq.{sets}
use Rattle.wire.specs.Fields.{le8, le_flag, le_bytes, le32, le_f32}
use Rattle.wire.specs.Cell.{bytes_of}
use Rattle.wire.proofs.Stores.{Piece, put, after, done, into, ran}
use Rattle.config.specs.declared.Config.{Config}
use Rattle.frame_config.specs.ConfigFrame.{energy_cells}
use Rattle.frame_config.proofs.put_energy.Goals as goal

abbrev pieces : Config → List Piece
pieces c =
    put 178 (le_f32 c.energy_marginal_wh) ∷
    put 182 (le_f32 c.energy_marginal_clear_wh) ∷
    put 186 (le32 c.energy_marginal_set_ms) ∷
    put 190 (le32 c.energy_marginal_clear_ms) ∷
    put 194 (le32 c.energy_infeasible_set_ms) ∷
    put 198 (le32 c.invalid_input_clear_ms) ∷
    put 202 (le32 c.disarm_hold_ms) ∷
    []

flat : (l : List ℕ) (c : Config) → after l (pieces c) ≡ sets l 178 (bytes_of (energy_cells c))
unfolding energy_cells le8 le_flag le_bytes le32 le_f32
flat l c = refl

pub returns : goal.returns
returns c =
    let a = c.args in
    ran a.s.now (pieces a.c) _
    (into c.put_f32.ensures
    (into c.put_f32-2.ensures
    (into c.put_u32.ensures
    (into c.put_u32-2.ensures
    (into c.put_u32-3.ensures
    (into c.put_u32-4.ensures
    (into c.put_u32-5.ensures
    done)))))))
    ∙ flat a.s.now a.c
