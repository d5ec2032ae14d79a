-- Telemetry written as a kind 9, and read again. Assumes nothing.
use mathlib.Core.Path.{◌≡◌, ◌∙◌, ap, refl}
use mathlib.Core.List.{◌++◌}
use lib.ListN.{length, drop, replicate}
use Rattle.types.specs.declared.Telemetry.{Telemetry}
use Rattle.wire.specs.Fields.{u8_at, number_at, u16_at, le_bytes, le8, le16, le32, le_f32, le_flag}
use Rattle.wire.specs.Frame.{frame_fault, frame_head, check_frame}
use Rattle.wire.proofs.Number.{bytes_number}
use Rattle.std.specs.Prelude.{Ok}
use Rattle.wire.proofs.Head.{number_zero}
use Rattle.frame_telemetry.specs.TelemetryFrame.{read_telemetry, battery_cells, status_cells, telemetry_cells, telemetry_frame}
use Rattle.frame_telemetry_trips.proofs.Trips.{value_back}
use Rattle.instants.specs.Retimed.{Stamps, telemetry_at}
use Rattle.instants.specs.Own.{stamps_of}
use Rattle.instants.specs.Listed.{stamps_listed, stamps_unlisted}
use Rattle.frame_wide.specs.Resized.{instants_at, narrowed, widened}
use Rattle.frame_wide.specs.WideTelemetry.{telemetry_gaps, telemetry_on, wide_stamps, read_wide_telemetry, wide_telemetry_frame}
use Rattle.frame_wide_trips.specs.Claim.{zero_stamps, TypedTelemetry}
use Rattle.frame_wide_trips.proofs.Readings.{instant_written, sample_written, gps_written, value_written, flag_written, landed_written, instant_zero, sample_zero, gps_zero, value_zero, flag_zero, landed_zero, instant_back, sample_back, gps_back, value_back as stamped_back, flag_back, landed_back}

-- at other stamps, it is written with these
pub written : (t : Telemetry) (i : Stamps) → wide_telemetry_frame (telemetry_at i t) ≡ frame_head 9 148 ++ widened telemetry_gaps (stamps_listed i) (drop 4 (telemetry_frame t))
unfolding wide_telemetry_frame telemetry_at stamps_of stamps_listed widened telemetry_gaps telemetry_frame telemetry_cells battery_cells status_cells frame_head le8 le_flag le_bytes le16 le32 le_f32 u8_at
written t i =
    λ j.
    frame_head 9 148
    ++ (le_bytes 8 i.now
    ++ (sample_written i.position t.position j
    ++ (gps_written i.gps t.gps j
    ++ (value_written i.voltage t.battery.voltage_v j
    ++ (value_written i.percent t.battery.percent j
    ++ (value_written i.remaining t.battery.remaining_wh j
    ++ (instant_written i.heartbeat t.gcs_heartbeat_ms j
    ++ (flag_written i.armed t.armed j
    ++ (landed_written i.landed t.landed j
    ++ (flag_written i.rc t.rc_ok j
    ++ flag_written i.ekf t.ekf_ok j))))))))))

-- ---- the frame's head and length

pub size : (t : Telemetry) → length (wide_telemetry_frame t) ≡ 150
unfolding wide_telemetry_frame stamps_of stamps_listed widened telemetry_gaps telemetry_frame telemetry_cells battery_cells status_cells frame_head le8 le_flag le_bytes le16 le32 le_f32 u8_at
size t = refl

pub kind : (t : Telemetry) → u16_at (wide_telemetry_frame t) 2 ≡ 9
unfolding wide_telemetry_frame stamps_of stamps_listed widened telemetry_gaps telemetry_frame telemetry_cells battery_cells status_cells frame_head le8 le_flag le_bytes le16 le32 le_f32 u8_at number_at u16_at
kind t = refl

pub head : (t : Telemetry) → frame_fault 9 148 (wide_telemetry_frame t) ≡ 0
unfolding check_frame wide_telemetry_frame stamps_of stamps_listed widened telemetry_gaps telemetry_frame telemetry_cells battery_cells status_cells frame_head le8 le_flag le_bytes le16 le32 le_f32 u8_at number_at u16_at
head t = refl

-- ---- the kind 3 of what was written: the telemetry at 0

at_zero : (t : Telemetry) → telemetry_on (replicate 11 0) (wide_telemetry_frame t) ≡ telemetry_frame (telemetry_at zero_stamps t)
unfolding telemetry_on narrowed telemetry_at wide_telemetry_frame stamps_of stamps_listed widened telemetry_gaps telemetry_frame telemetry_cells battery_cells status_cells frame_head le8 le_flag le_bytes le16 le32 le_f32 u8_at number_at
at_zero t =
    λ j.
    frame_head 3 104
    ++ (le_bytes 4 0
    ++ (sample_zero t.position j
    ++ (gps_zero t.gps j
    ++ (value_zero t.battery.voltage_v j
    ++ (value_zero t.battery.percent j
    ++ (value_zero t.battery.remaining_wh j
    ++ (instant_zero t.gcs_heartbeat_ms j
    ++ (flag_zero t.armed j
    ++ (landed_zero t.landed j
    ++ (flag_zero t.rc_ok j
    ++ flag_zero t.ekf_ok j))))))))))

-- and its stamps
stamps_back : (t : Telemetry) → TypedTelemetry t → telemetry_at (wide_stamps (wide_telemetry_frame t)) (telemetry_at zero_stamps t) ≡ t
unfolding wide_stamps instants_at stamps_unlisted telemetry_at wide_telemetry_frame stamps_of stamps_listed widened telemetry_gaps telemetry_frame telemetry_cells battery_cells status_cells frame_head le8 le_flag le_bytes le16 le32 le_f32 u8_at number_at
stamps_back t g =
    let h = g.stamps in
    λ j.
    record {
      now_ms = bytes_number 8 t.now_ms (h 0) j;
      position = sample_back t.position (h 1) j;
      gps = gps_back t.gps (h 2) j;
      battery =
          record {
            voltage_v = stamped_back t.battery.voltage_v (h 3) j;
            percent = stamped_back t.battery.percent (h 4) j;
            remaining_wh = stamped_back t.battery.remaining_wh (h 5) j;
          };
      gcs_heartbeat_ms = instant_back t.gcs_heartbeat_ms (h 6) j;
      armed = flag_back t.armed (h 7) j;
      landed = landed_back t.landed (h 8) j;
      rc_ok = flag_back t.rc_ok (h 9) j;
      ekf_ok = flag_back t.ekf_ok (h 10) j;
    }

-- value, bytes, value
pub value_again : (t : Telemetry) → TypedTelemetry t → read_wide_telemetry (wide_telemetry_frame t) ≡ Ok t
unfolding read_wide_telemetry
value_again t g =
    let inner = ap read_telemetry (at_zero t) ∙ value_back (telemetry_at zero_stamps t) g.others in
    simp (number_zero _ (head t), inner) (ap Ok (stamps_back t g))
