-- Readings tested and read at once: the reading, or an error for "flag or enum byte out of range; absent value not zero". The tests are those of
-- `telemetry_tests`, reading by reading (`by_fields`, proofs/Checked.antt). Assumes nothing.
use Rattle.std.specs.Prelude.{ℕ, ◌+◌, List, [], ◌∷◌, Bool, true, cond, ◌&&◌, Float, Option, Result, Ok, Err}
use Rattle.wire.specs.Fields.{u32_at, f32_at, flag_at, byte_below}
use Rattle.wire.specs.Frame.{all_true}
use Rattle.options.specs.Options.{valid_option, option_u8_at, option_u32_at, option_f32_at}
use Rattle.options.specs.Position.{option_position_at}
use Rattle.types.specs.declared.GpsSample.{GpsSample}
use Rattle.types.specs.declared.LandedState.{LandedState}
use Rattle.types.specs.declared.Stamped.{Stamped}
use Rattle.types.specs.declared.BatteryInputs.{BatteryInputs}
use Rattle.wire.specs.declared.FrameError.{FrameError}
use Rattle.frame_telemetry.specs.Readings.{fix_at, landed_at, option_gps_at, stamped_at}
use Rattle.types.specs.declared.PositionSample.{PositionSample}
use Rattle.types.specs.declared.Telemetry.{Telemetry}

-- a reading whose bytes are in range
abbrev pub in_range : {A : Type 0} → Bool → A → Result A FrameError
in_range b a = cond b (Ok a) (Err FrameError.OutOfRange)

-- one reading, then the next
infixl 10 ◌>>=◌
abbrev pub ◌>>=◌ : {A B : Type 0} → Result A FrameError → (A → Result B FrameError) → Result B FrameError
Ok a >>= f = f a
Err e >>= f = Err e

-- Option<PositionSample> at byte 8
unfoldable pub position_field : List ℕ → Result (Option PositionSample) FrameError
position_field s = in_range (valid_option s 8 28) (option_position_at s 8)

-- Option<GpsSample> at byte 37; where it is present, its fix and the two values inside it that may be absent
unfoldable pub sample_valid : List ℕ → Bool
sample_valid s = all_true (byte_below s 42 3) (valid_option s 43 1 ∷ valid_option s 45 4 ∷ [])

unfoldable pub sample_at : List ℕ → GpsSample
sample_at s = record { t_ms = u32_at s 38; fix = fix_at s 42; sats = option_u8_at s 43; hdop = option_f32_at s 45 }

unfoldable pub gps_valid : List ℕ → Bool
gps_valid s = valid_option s 37 12 && sample_valid s

unfoldable pub gps_field : List ℕ → Result (Option GpsSample) FrameError
gps_field s = in_range (gps_valid s) (option_gps_at s 37)

-- a stamped reading: n bytes of value, of which `valid` tells those in range
unfoldable pub stamped_field : {A : Type 0} → (List ℕ → ℕ → A) → (List ℕ → ℕ → Bool) → ℕ → List ℕ → ℕ → Result (Option (Stamped A)) FrameError
stamped_field value valid n s i = in_range (valid_option s i (4 + n) && valid s (i + 5)) (stamped_at value s i)

-- each four bytes are a float; a bool is a byte 0 or 1; there are five LandedStates
abbrev pub f32_valid : List ℕ → ℕ → Bool
f32_valid s i = true

abbrev pub bool_valid : List ℕ → ℕ → Bool
bool_valid s i = byte_below s i 2

abbrev pub landed_valid : List ℕ → ℕ → Bool
landed_valid s i = byte_below s i 5

-- Option<Stamped<f32>>, Option<Stamped<bool>>, Option<Stamped<LandedState>>
abbrev pub stamped_f32_field : List ℕ → ℕ → Result (Option (Stamped Float)) FrameError
stamped_f32_field s i = stamped_field f32_at f32_valid 4 s i

abbrev pub stamped_bool_field : List ℕ → ℕ → Result (Option (Stamped Bool)) FrameError
stamped_bool_field s i = stamped_field flag_at bool_valid 1 s i

abbrev pub stamped_landed_field : List ℕ → ℕ → Result (Option (Stamped LandedState)) FrameError
stamped_landed_field s i = stamped_field landed_at landed_valid 1 s i

-- the heartbeat's Option<u32>
unfoldable pub heartbeat_field : List ℕ → Result (Option ℕ) FrameError
heartbeat_field s = in_range (valid_option s 77 4) (option_u32_at s 77)

-- the three readings of the battery
unfoldable pub battery_field : List ℕ → Result BatteryInputs FrameError
battery_field s = do
  voltage ← stamped_f32_field s 50
  percent ← stamped_f32_field s 59
  remaining ← stamped_f32_field s 68
  Ok (record { voltage_v = voltage; percent = percent; remaining_wh = remaining })

unfoldable pub telemetry_fields : List ℕ → Result Telemetry FrameError
telemetry_fields s = do
  position ← position_field s
  gps ← gps_field s
  battery ← battery_field s
  heartbeat ← heartbeat_field s
  armed ← stamped_bool_field s 82
  landed ← stamped_landed_field s 88
  rc_ok ← stamped_bool_field s 94
  ekf_ok ← stamped_bool_field s 100
  Ok
      (record {
        now_ms = u32_at s 4;
        position = position;
        gps = gps;
        battery = battery;
        gcs_heartbeat_ms = heartbeat;
        armed = armed;
        landed = landed;
        rc_ok = rc_ok;
        ekf_ok = ekf_ok;
      })
