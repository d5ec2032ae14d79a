-- `frame_telemetry::put_battery` meets its contract. The calls' contracts, one after the other, are a run of stores. Assumes nothing.
use Prim.Native.Nat.{ℕ}
use mathlib.Core.Path.{◌≡◌, ◌∙◌, refl}
use mathlib.Core.List.{List, [], ◌∷◌}
use lib.Seq.{sets}
use Rattle.wire.specs.Cell.{bytes_of}
use Rattle.wire.proofs.Stores.{Piece, put, after, done, into, ran}
use Rattle.wire.specs.Fields.{le_flag, le_bytes, le32, le_f32}
use Rattle.types.specs.declared.BatteryInputs.{BatteryInputs}
use Rattle.frame_telemetry.specs.Readings.{stamped_f32_cells}
use Rattle.frame_telemetry.specs.TelemetryFrame.{battery_cells}
use Rattle.frame_telemetry.proofs.put_battery.Goals as goal

abbrev pieces : BatteryInputs → List Piece
pieces b =
    put 50 (bytes_of (stamped_f32_cells b.voltage_v)) ∷
    put 59 (bytes_of (stamped_f32_cells b.percent)) ∷
    put 68 (bytes_of (stamped_f32_cells b.remaining_wh)) ∷
    []

flat : (l : List ℕ) (b : BatteryInputs) → after l (pieces b) ≡ sets l 50 (bytes_of (battery_cells b))
unfolding battery_cells le_flag le_bytes le32 le_f32
flat l b = refl

pub returns : goal.returns
returns c =
    let a = c.args in
    ran a.s.now (pieces a.b) _ (into c.put_stamped.ensures (into c.put_stamped-2.ensures (into c.put_stamped-3.ensures done)))
    ∙ flat a.s.now a.b
