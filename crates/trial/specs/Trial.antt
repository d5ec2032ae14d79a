-- A frame's Telemetry from its draws, in declared order. "Fields of an absent reading are drawn and written as zero." Assumes nothing.
use Rattle.std.specs.Prelude.{ℕ, ◌+◌, ◌/◌, ◌%◌, ◌^◌, true, cond, List, slice_index, Option, Some, None, Float}
use Rattle.types.specs.declared.Vec3.{Vec3}
use Rattle.types.specs.declared.BatteryInputs.{BatteryInputs}
use Rattle.types.specs.declared.Telemetry.{Telemetry}
use Rattle.trial.specs.declared.Generator.{Generator}
use Rattle.trial.specs.declared.NextFrame.{NextFrame}
use Rattle.trial.specs.Draws.{next, drawn, draws_of, stamp_of, flag_of, fix_of, landed_of, byte_of, float_of}
use Rattle.types.specs.declared.Stamped.{Stamped}
use Rattle.types.specs.declared.PositionSample.{PositionSample}
use Rattle.types.specs.declared.GpsSample.{GpsSample}

-- the draw of a field, by the field's number from 0
abbrev pub at : List ℕ → ℕ → ℕ
at d i = slice_index d i

-- a reading takes the draws of its flag, its stamp and its fields, from number i on
unfoldable pub vec3_of : List ℕ → ℕ → Vec3
vec3_of d i = record { n = float_of (at d i); e = float_of (at d (i + 1)); d = float_of (at d (i + 2)) }

unfoldable pub position_of : ℕ → List ℕ → Option PositionSample
position_of now d =
    cond (flag_of (at d 0)) (Some (record { t_ms = stamp_of now (at d 1); pos = vec3_of d 2; vel = vec3_of d 5 })) None

unfoldable pub sats_of : List ℕ → Option ℕ
sats_of d = cond (flag_of (at d 11)) (Some (byte_of (at d 12))) None

unfoldable pub hdop_of : List ℕ → Option Float
hdop_of d = cond (flag_of (at d 13)) (Some (float_of (at d 14))) None

unfoldable pub gps_of : ℕ → List ℕ → Option GpsSample
gps_of now d =
    cond (flag_of (at d 8))
    (Some (record { t_ms = stamp_of now (at d 9); fix = fix_of (at d 10); sats = sats_of d; hdop = hdop_of d }))
    None

-- a reading of one value, from the draws of its flag and of its stamp
abbrev pub stamped_of : {A : Type 0} → ℕ → List ℕ → ℕ → A → Option (Stamped A)
stamped_of now d i value = cond (flag_of (at d i)) (Some (record { t_ms = stamp_of now (at d (i + 1)); value = value })) None

unfoldable pub battery_of : ℕ → List ℕ → BatteryInputs
battery_of now d =
    record {
      voltage_v = stamped_of now d 15 (float_of (at d 17));
      percent = stamped_of now d 18 (float_of (at d 20));
      remaining_wh = stamped_of now d 21 (float_of (at d 23));
    }

unfoldable pub heartbeat_of : ℕ → List ℕ → Option ℕ
heartbeat_of now d = cond (flag_of (at d 24)) (Some (stamp_of now (at d 25))) None

-- "Each other field takes one draw in declared order": 38 of them
unfoldable pub telemetry_of : ℕ → List ℕ → Telemetry
telemetry_of now d =
    record {
      now_ms = now;
      position = position_of now d;
      gps = gps_of now d;
      battery = battery_of now d;
      gcs_heartbeat_ms = heartbeat_of now d;
      armed = stamped_of now d 26 (flag_of (at d 28));
      landed = stamped_of now d 29 (landed_of (at d 31));
      rc_ok = stamped_of now d 32 (flag_of (at d 34));
      ekf_ok = stamped_of now d 35 (flag_of (at d 37));
    }

-- "now_ms is 0 in the first frame, without a draw; in each later frame it grows, wrapping, by one draw div 2^22"
unfoldable pub now_of : Generator → ℕ
now_of g = cond g.begun ((g.now_ms + next g.x / 2 ^ 22) % 2 ^ 32) 0

-- the generator when now_ms is known
unfoldable pub fields_from : Generator → ℕ
fields_from g = cond g.begun (next g.x) g.x

-- the next frame's Telemetry, and the generator that many draws on
unfoldable pub next_frame : Generator → NextFrame
next_frame g =
    record {
      telemetry = telemetry_of (now_of g) (draws_of 38 (fields_from g));
      generator = record { x = drawn 38 (fields_from g); now_ms = now_of g; begun = true };
    }
