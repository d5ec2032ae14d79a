-- `frame_config::put_link` meets its contract: the calls' contracts, one after the other, are a run of stores. Assumes nothing.
use Prim.Native.Nat.{ℕ}
use mathlib.Core.Path.{◌≡◌, ◌∙◌, refl}
use mathlib.Core.List.{List, [], ◌∷◌}
use lib.Seq.{sets}
use Rattle.wire.specs.Fields.{le8, le_flag, le_bytes, le32, le_f32}
use Rattle.wire.specs.Cell.{bytes_of}
use Rattle.wire.proofs.Stores.{Piece, put, after, done, into, ran}
use Rattle.config.specs.declared.Config.{Config}
use Rattle.frame_config.specs.ConfigFrame.{link_cells}
use Rattle.frame_config.proofs.put_link.Goals as goal

abbrev pieces : Config → List Piece
pieces c =
    put 30 (le32 c.gcs_warn_ms) ∷
    put 34 (le32 c.gcs_hold_ms) ∷
    put 38 (le32 c.gcs_rtl_ms) ∷
    put 42 (le32 c.gcs_clear_ms) ∷
    put 46 (le32 c.gcs_clear_hold_ms) ∷
    put 50 (le32 c.rc_lost_set_ms) ∷
    put 54 (le32 c.rc_lost_clear_ms) ∷
    put 58 (le32 c.gps_degraded_set_ms) ∷
    put 62 (le32 c.gps_degraded_clear_ms) ∷
    put 66 (le32 c.gps_lost_set_ms) ∷
    put 70 (le32 c.gps_lost_clear_ms) ∷
    put 74 (le32 c.ekf_unhealthy_set_ms) ∷
    put 78 (le32 c.ekf_unhealthy_clear_ms) ∷
    []

flat : (l : List ℕ) (c : Config) → after l (pieces c) ≡ sets l 30 (bytes_of (link_cells c))
unfolding link_cells le8 le_flag le_bytes le32 le_f32
flat l c = refl

pub returns : goal.returns
returns c =
    let a = c.args in
    ran a.s.now (pieces a.c) _
    (into c.put_u32.ensures
    (into c.put_u32-2.ensures
    (into c.put_u32-3.ensures
    (into c.put_u32-4.ensures
    (into c.put_u32-5.ensures
    (into c.put_u32-6.ensures
    (into c.put_u32-7.ensures
    (into c.put_u32-8.ensures
    (into c.put_u32-9.ensures
    (into c.put_u32-10.ensures
    (into c.put_u32-11.ensures
    (into c.put_u32-12.ensures
    (into c.put_u32-13.ensures
    done)))))))))))))
    ∙ flat a.s.now a.c
