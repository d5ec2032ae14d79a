-- `frame_config::put_fence` meets its contract: the calls' contracts, one after the other, are a run of stores. Assumes nothing.
use Prim.Native.Nat.{ℕ}
use mathlib.Core.Path.{◌≡◌, ◌∙◌, refl}
use mathlib.Core.List.{List, [], ◌∷◌}
use lib.Seq.{sets}
use Rattle.wire.specs.Fields.{le8, le_flag, le_bytes, le32, le_f32}
use Rattle.wire.specs.Cell.{bytes_of}
use Rattle.wire.proofs.Stores.{Piece, put, after, done, into, ran}
use Rattle.config.specs.declared.Config.{Config}
use Rattle.frame_config.specs.ConfigFrame.{fence_cells}
use Rattle.frame_config.proofs.put_fence.Goals as goal

abbrev pieces : Config → List Piece
pieces c =
    put 82 (le_f32 c.fence_approach_m) ∷
    put 86 (le_f32 c.fence_approach_clear_m) ∷
    put 90 (le32 c.fence_breach_set_ms) ∷
    put 94 (le_f32 c.fence_breach_clear_m) ∷
    put 98 (le32 c.fence_breach_clear_ms) ∷
    put 102 (le_f32 c.alt_max_clear_m) ∷
    put 106 (le32 c.alt_max_set_ms) ∷
    put 110 (le32 c.alt_max_clear_hold_ms) ∷
    put 114 (le_f32 c.alt_min_home_radius_m) ∷
    put 118 (le32 c.alt_min_set_ms) ∷
    put 122 (le_f32 c.alt_min_clear_m) ∷
    put 126 (le32 c.alt_min_clear_ms) ∷
    []

flat : (l : List ℕ) (c : Config) → after l (pieces c) ≡ sets l 82 (bytes_of (fence_cells c))
unfolding fence_cells le8 le_flag le_bytes le32 le_f32
flat l c = refl

pub returns : goal.returns
returns c =
    let a = c.args in
    ran a.s.now (pieces a.c) _
    (into c.put_f32.ensures
    (into c.put_f32-2.ensures
    (into c.put_u32.ensures
    (into c.put_f32-3.ensures
    (into c.put_u32-2.ensures
    (into c.put_f32-4.ensures
    (into c.put_u32-3.ensures
    (into c.put_u32-4.ensures
    (into c.put_f32-5.ensures
    (into c.put_u32-5.ensures
    (into c.put_f32-6.ensures
    (into c.put_u32-6.ensures
    done))))))))))))
    ∙ flat a.s.now a.c
