-- `frame_config::put_freshness` meets its contract: the calls' contracts, one after the other, are a run of stores. Assumes nothing.
use Prim.Native.Nat.{ℕ}
use mathlib.Core.Path.{◌≡◌, ◌∙◌, refl}
use mathlib.Core.List.{List, [], ◌∷◌}
use lib.Seq.{sets}
use Rattle.wire.specs.Fields.{le8, le_flag, le_bytes, le32, le_f32}
use Rattle.wire.specs.Cell.{bytes_of}
use Rattle.wire.proofs.Stores.{Piece, put, after, done, into, ran}
use Rattle.config.specs.declared.Config.{Config}
use Rattle.frame_config.specs.ConfigFrame.{freshness_cells}
use Rattle.frame_config.proofs.put_freshness.Goals as goal

abbrev pieces : Config → List Piece
pieces c =
    put 4 (le8 c.cell_count) ∷
    put 5 (le_f32 c.usable_capacity_wh) ∷
    put 9 (le_flag c.rc_required) ∷
    put 10 (le32 c.pos_fresh_ms) ∷
    put 14 (le32 c.gps_fresh_ms) ∷
    put 18 (le32 c.status_fresh_ms) ∷
    put 22 (le32 c.battery_fresh_ms) ∷
    put 26 (le32 c.recovery_hold_ms) ∷
    []

flat : (l : List ℕ) (c : Config) → after l (pieces c) ≡ sets l 4 (bytes_of (freshness_cells c))
unfolding freshness_cells le8 le_flag le_bytes le32 le_f32
flat l c = refl

pub returns : goal.returns
returns c =
    let a = c.args in
    ran a.s.now (pieces a.c) _
    (into c.put_u8.ensures
    (into c.put_f32.ensures
    (into c.put_flag.ensures
    (into c.put_u32.ensures
    (into c.put_u32-2.ensures
    (into c.put_u32-3.ensures
    (into c.put_u32-4.ensures
    (into c.put_u32-5.ensures
    done))))))))
    ∙ flat a.s.now a.c
