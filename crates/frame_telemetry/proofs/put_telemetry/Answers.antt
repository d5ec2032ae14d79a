-- `frame_telemetry::put_telemetry` meets its contract. The calls' contracts, one after the other, are a run of stores. Assumes nothing.
use Prim.Native.Nat.{ℕ}
use mathlib.Core.Path.{◌≡◌, ◌∙◌, refl}
use mathlib.Core.List.{List, [], ◌∷◌}
use lib.Seq.{sets}
use Rattle.wire.specs.Cell.{bytes_of}
use Rattle.wire.proofs.Stores.{Piece, put, after, done, into, ran}
use Rattle.wire.specs.Fields.{le8, le_flag, le_bytes, le16, le32, le_f32}
use Rattle.wire.specs.Frame.{frame_head}
use Rattle.options.specs.Position.{position_cells}
use Rattle.types.specs.declared.Telemetry.{Telemetry}
use Rattle.frame_telemetry.specs.Readings.{gps_cells}
use Rattle.frame_telemetry.specs.TelemetryFrame.{battery_cells, status_cells, telemetry_cells, telemetry_frame}
use Rattle.frame_telemetry.proofs.put_telemetry.Goals as goal

abbrev pieces : Telemetry → List Piece
pieces t =
    put 0 (frame_head 3 104) ∷
    put 4 (le32 t.now_ms) ∷
    put 8 (bytes_of (position_cells t.position)) ∷
    put 37 (bytes_of (gps_cells t.gps)) ∷
    put 50 (bytes_of (battery_cells t.battery)) ∷
    put 77 (bytes_of (status_cells t)) ∷
    []

flat : (l : List ℕ) (t : Telemetry) → after l (pieces t) ≡ sets l 0 (telemetry_frame t)
unfolding telemetry_frame telemetry_cells battery_cells status_cells frame_head le8 le_flag le_bytes le16 le32 le_f32
flat l t = refl

pub returns : goal.returns
returns c =
    let a = c.args in
    ran a.s.now (pieces a.t) _
    (into c.put_head.ensures
    (into c.put_u32.ensures
    (into c.put_option_position.ensures
    (into c.put_gps.ensures
    (into c.put_battery.ensures
    (into c.put_status.ensures
    done))))))
    ∙ flat a.s.now a.t
