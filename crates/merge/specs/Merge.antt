-- Document 02, L10: "Merge the kind 3 frames of both radios for one step." The ten readings, each chosen by the one rule. Assumes nothing.
use Rattle.std.specs.Prelude.{ℕ, Bool, true, Float}
use Rattle.types.specs.declared.BatteryInputs.{BatteryInputs}
use Rattle.types.specs.declared.GpsSample.{GpsSample}
use Rattle.types.specs.declared.PositionSample.{PositionSample}
use Rattle.types.specs.declared.Stamped.{Stamped}
use Rattle.types.specs.declared.Telemetry.{Telemetry}
use Rattle.validate.specs.Bounds.{position_ok, gps_ok, percent_ok, remaining_ok}
use Rattle.merge.specs.Choice.{chosen}

-- the stamp of a reading with its value
abbrev pub stamp_of : {A : Type 0} → Stamped A → ℕ
stamp_of r = r.t_ms

abbrev pub position_stamp : PositionSample → ℕ
position_stamp p = p.t_ms

abbrev pub gps_stamp : GpsSample → ℕ
gps_stamp g = g.t_ms

-- "An optional heartbeat is its own stamp"
abbrev pub heartbeat_stamp : ℕ → ℕ
heartbeat_stamp h = h

-- a reading that `validate_telemetry` never drops
abbrev pub always : {A : Type 0} → A → Bool
always x = true

-- "A reading that `validate_telemetry` would drop from its own frame": one out of its bounds, of which the capacity alone is the configuration's
unfoldable pub merge_battery : Float → ℕ → BatteryInputs → BatteryInputs → BatteryInputs
merge_battery cap now a b =
    record {
      voltage_v = chosen stamp_of percent_ok now a.voltage_v b.voltage_v;
      percent = chosen stamp_of percent_ok now a.percent b.percent;
      remaining_wh = chosen stamp_of (λ r. remaining_ok r cap) now a.remaining_wh b.remaining_wh;
    }

-- "What isn't optional is the first radio's."
unfoldable pub merge_telemetry : Float → Telemetry → Telemetry → Telemetry
merge_telemetry cap a b =
    let now = a.now_ms in
    record {
      now_ms = now;
      position = chosen position_stamp position_ok now a.position b.position;
      gps = chosen gps_stamp gps_ok now a.gps b.gps;
      battery = merge_battery cap now a.battery b.battery;
      gcs_heartbeat_ms = chosen heartbeat_stamp always now a.gcs_heartbeat_ms b.gcs_heartbeat_ms;
      armed = chosen stamp_of always now a.armed b.armed;
      landed = chosen stamp_of always now a.landed b.landed;
      rc_ok = chosen stamp_of always now a.rc_ok b.rc_ok;
      ekf_ok = chosen stamp_of always now a.ekf_ok b.ekf_ok;
    }
