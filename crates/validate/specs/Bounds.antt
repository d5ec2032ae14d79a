-- Document 01, 'validate': "Bounds as in the Rust; stale readings are checked too." Assumes nothing.
use Rattle.std.specs.Prelude.{Bool, true, cond, not, ◌&&◌, from_bits, Float, Option, Some, None}
use Rattle.std.specs.Float.{binary32}
use Rattle.std.specs.Float.Ieee.{neg, lt, le}
use Rattle.float32.specs.Binary32.{add_f, mul_f, zero_f}
use Rattle.float32.specs.Sqrt.{square_root}
use Rattle.float32.specs.Libm.{is_finite, fabs}
use Rattle.types.specs.declared.Vec3.{Vec3}
use Rattle.types.specs.declared.PositionSample.{PositionSample}
use Rattle.types.specs.declared.GpsSample.{GpsSample}
use Rattle.types.specs.declared.Telemetry.{Telemetry}
use Rattle.types.specs.Vec3.{alt_m}
use Rattle.validate.specs.declared.ValidatedTelemetry.{ValidatedTelemetry}
use Rattle.types.specs.declared.Stamped.{Stamped}

-- 100; 1.1; 2,000; 10,000 (proofs/Constants.antt)
abbrev pub hundred : Float
hundred = from_bits binary32 0x42C8_0000

abbrev pub overfull : Float
overfull = from_bits binary32 0x3F8C_CCCD

abbrev pub two_thousand : Float
two_thousand = from_bits binary32 0x44FA_0000

abbrev pub ten_thousand : Float
ten_thousand = from_bits binary32 0x461C_4000

-- finite, within 10,000 m of home either way, and from 100 m below it to 2,000 m above
unfoldable pub within_position : Vec3 → Bool
within_position p =
    is_finite p.n && is_finite p.e && is_finite p.d
    && not (lt ten_thousand (fabs p.n)) && not (lt ten_thousand (fabs p.e))
    && not (lt (alt_m p) (neg hundred)) && not (lt two_thousand (alt_m p))

-- finite, and at most 100 m/s
unfoldable pub within_velocity : Vec3 → Bool
within_velocity v =
    is_finite v.n && is_finite v.e && is_finite v.d
    && not (lt hundred (square_root (add_f (add_f (mul_f v.n v.n) (mul_f v.e v.e)) (mul_f v.d v.d))))

unfoldable pub validate_position_sample : PositionSample → Bool
validate_position_sample s = within_position s.pos && within_velocity s.vel

-- a present hdop is finite and from 0 to 100
abbrev pub validate_hdop : Option Float → Bool
validate_hdop None = true
validate_hdop (Some h) = is_finite h && not (lt h zero_f) && not (lt hundred h)

unfoldable pub validate_gps : GpsSample → Bool
validate_gps g = validate_hdop g.hdop

-- finite, and from 0 to `most`
abbrev pub up_to : Float → Float → Bool
up_to most x = is_finite x && le zero_f x && le x most

-- of a voltage and of a percentage: up to 100
unfoldable pub validate_percent : Float → Bool
validate_percent p = up_to hundred p

-- up to 1.1 times the capacity
unfoldable pub validate_remaining : Float → Float → Bool
validate_remaining r cap = up_to (mul_f cap overfull) r

-- an absent reading breaks no bound
abbrev pub position_ok : Option PositionSample → Bool
position_ok None = true
position_ok (Some s) = validate_position_sample s

abbrev pub gps_ok : Option GpsSample → Bool
gps_ok None = true
gps_ok (Some g) = validate_gps g

abbrev pub percent_ok : Option (Stamped Float) → Bool
percent_ok None = true
percent_ok (Some r) = validate_percent r.value

abbrev pub remaining_ok : Option (Stamped Float) → Float → Bool
remaining_ok None cap = true
remaining_ok (Some s) cap = validate_remaining s.value cap

-- a reading out of bounds is taken as absent
abbrev pub keep : {A : Type 0} → Bool → Option A → Option A
keep ok x = cond ok x None

-- each reading by itself; the input is invalid where one was out of bounds
unfoldable pub validate_telemetry : Telemetry → Float → ValidatedTelemetry
validate_telemetry t cap =
    let p = position_ok t.position in
    let g = gps_ok t.gps in
    let v = percent_ok t.battery.voltage_v in
    let c = percent_ok t.battery.percent in
    let r = remaining_ok t.battery.remaining_wh cap in
    record {
      telemetry =
          record {
            now_ms = t.now_ms;
            position = keep p t.position;
            gps = keep g t.gps;
            battery =
                record {
                  voltage_v = keep v t.battery.voltage_v;
                  percent = keep c t.battery.percent;
                  remaining_wh = keep r t.battery.remaining_wh;
                };
            gcs_heartbeat_ms = t.gcs_heartbeat_ms;
            armed = t.armed;
            landed = t.landed;
            rc_ok = t.rc_ok;
            ekf_ok = t.ekf_ok;
          };
      invalid_input = not (p && g && v && c && r);
    }
