-- `frame_config::put_battery` meets its contract: the calls' contracts, one after the other, are a run of stores. Assumes nothing.
use Prim.Native.Nat.{ℕ}
use mathlib.Core.Path.{◌≡◌, ◌∙◌, refl}
use mathlib.Core.List.{List, [], ◌∷◌}
use lib.Seq.{sets}
use Rattle.wire.specs.Fields.{le8, le_flag, le_bytes, le32, le_f32}
use Rattle.wire.specs.Cell.{bytes_of}
use Rattle.wire.proofs.Stores.{Piece, put, after, done, into, ran}
use Rattle.config.specs.declared.Config.{Config}
use Rattle.frame_config.specs.ConfigFrame.{battery_cells}
use Rattle.frame_config.proofs.put_battery.Goals as goal

abbrev pieces : Config → List Piece
pieces c =
    put 130 (le32 c.stale_battery_clear_ms) ∷
    put 134 (le_f32 c.battery_warn_pct) ∷
    put 138 (le_f32 c.battery_warn_clear_pct) ∷
    put 142 (le32 c.battery_warn_set_ms) ∷
    put 146 (le32 c.battery_warn_clear_ms) ∷
    put 150 (le_f32 c.battery_low_pct) ∷
    put 154 (le_f32 c.battery_low_clear_pct) ∷
    put 158 (le32 c.battery_low_set_ms) ∷
    put 162 (le32 c.battery_low_clear_ms) ∷
    put 166 (le_f32 c.battery_critical_pct) ∷
    put 170 (le_f32 c.battery_critical_v_per_cell) ∷
    put 174 (le32 c.battery_critical_set_ms) ∷
    []

flat : (l : List ℕ) (c : Config) → after l (pieces c) ≡ sets l 130 (bytes_of (battery_cells c))
unfolding battery_cells le8 le_flag le_bytes le32 le_f32
flat l c = refl

pub returns : goal.returns
returns c =
    let a = c.args in
    ran a.s.now (pieces a.c) _
    (into c.put_u32.ensures
    (into c.put_f32.ensures
    (into c.put_f32-2.ensures
    (into c.put_u32-2.ensures
    (into c.put_u32-3.ensures
    (into c.put_f32-3.ensures
    (into c.put_f32-4.ensures
    (into c.put_u32-4.ensures
    (into c.put_u32-5.ensures
    (into c.put_f32-5.ensures
    (into c.put_f32-6.ensures
    (into c.put_u32-6.ensures
    done))))))))))))
    ∙ flat a.s.now a.c
