-- A Telemetry frame has 106 bytes. Assumes nothing.
use mathlib.Core.Path.{◌≡◌, refl}
use lib.ListN.{length}
use Rattle.wire.specs.Fields.{le8, le_flag, le_bytes, le16, le32, le_f32}
use Rattle.wire.specs.Frame.{frame_head}
use Rattle.types.specs.declared.Telemetry.{Telemetry}
use Rattle.frame_telemetry.specs.TelemetryFrame.{telemetry_frame, telemetry_cells, battery_cells, status_cells}

pub size : (t : Telemetry) → length (telemetry_frame t) ≡ 106
unfolding telemetry_frame telemetry_cells battery_cells status_cells frame_head le8 le_flag le_bytes le16 le32 le_f32
size t = refl
