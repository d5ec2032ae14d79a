-- Kind 3, Telemetry: "Body fields stand in the Rust's declared order". Assumes nothing.
use Rattle.std.specs.Prelude.{ℕ, List, [], ◌∷◌, ◌++◌, Bool, cond, Result, Ok, Err}
use Rattle.std.specs.Result.{result_and}
use Rattle.wire.specs.Fields.{u32_at, byte_below}
use Rattle.wire.specs.Cell.{Cell, u32, bytes_of}
use Rattle.wire.specs.declared.FrameError.{FrameError}
use Rattle.wire.specs.Frame.{check_frame, frame_head, all_true}
use Rattle.options.specs.Options.{valid_option, option_u32_at}
use Rattle.options.specs.Position.{option_position_at, position_cells}
use Rattle.types.specs.declared.Telemetry.{Telemetry}
use Rattle.types.specs.declared.BatteryInputs.{BatteryInputs}
use Rattle.frame_telemetry.specs.Readings.{option_gps_at, gps_cells, u32_cells, stamped_f32_at, stamped_f32_cells, stamped_bool_at, stamped_bool_cells, stamped_landed_at, stamped_landed_cells}

-- the fields in their places, after the four bytes of the head
unfoldable pub telemetry_at : List ℕ → Telemetry
telemetry_at s =
    record {
      now_ms = u32_at s 4;
      position = option_position_at s 8;
      gps = option_gps_at s 37;
      battery = record { voltage_v = stamped_f32_at s 50; percent = stamped_f32_at s 59; remaining_wh = stamped_f32_at s 68 };
      gcs_heartbeat_ms = option_u32_at s 77;
      armed = stamped_bool_at s 82;
      landed = stamped_landed_at s 88;
      rc_ok = stamped_bool_at s 94;
      ekf_ok = stamped_bool_at s 100;
    }

-- "flag or enum byte out of range; absent value not zero": none of these, the flags inside a reading included
unfoldable pub telemetry_tests : List ℕ → List Bool
telemetry_tests s =
    valid_option s 37 12 ∷
    byte_below s 42 3 ∷
    valid_option s 43 1 ∷
    valid_option s 45 4 ∷
    valid_option s 50 8 ∷
    valid_option s 59 8 ∷
    valid_option s 68 8 ∷
    valid_option s 77 4 ∷
    valid_option s 82 5 ∷
    byte_below s 87 2 ∷
    valid_option s 88 5 ∷
    byte_below s 93 5 ∷
    valid_option s 94 5 ∷
    byte_below s 99 2 ∷
    valid_option s 100 5 ∷
    byte_below s 105 2 ∷
    []

unfoldable pub telemetry_valid : List ℕ → Bool
telemetry_valid s = all_true (valid_option s 8 28) (telemetry_tests s)

-- the frame read: the head, then the body
abbrev pub read_body : List ℕ → Result Telemetry FrameError
read_body s = cond (telemetry_valid s) (Ok (telemetry_at s)) (Err FrameError.OutOfRange)

unfoldable pub read_telemetry : List ℕ → Result Telemetry FrameError
read_telemetry s = result_and (check_frame 3 104 s) (read_body s)

-- the fields as cells, in four parts
unfoldable pub battery_cells : BatteryInputs → List Cell
battery_cells b = stamped_f32_cells b.voltage_v ++ (stamped_f32_cells b.percent ++ stamped_f32_cells b.remaining_wh)

unfoldable pub status_cells : Telemetry → List Cell
status_cells t =
    u32_cells t.gcs_heartbeat_ms
    ++ (stamped_bool_cells t.armed ++ (stamped_landed_cells t.landed ++ (stamped_bool_cells t.rc_ok ++ stamped_bool_cells t.ekf_ok)))

unfoldable pub telemetry_cells : Telemetry → List Cell
telemetry_cells t = u32 t.now_ms ∷ position_cells t.position ++ (gps_cells t.gps ++ (battery_cells t.battery ++ status_cells t))

-- the whole frame: 104 bytes of kind and body
unfoldable pub telemetry_frame : Telemetry → List ℕ
telemetry_frame t = frame_head 3 104 ++ bytes_of (telemetry_cells t)
