-- Validation and the glitch filter under another clock. Assumes nothing.
use Rattle.std.specs.Prelude.{Option, Some, None}
use Prim.Native.Nat.{ℕ}
use mathlib.Core.Path.{◌≡◌, refl, ap, sym, ◌∙◌}
use mathlib.Core.Bool.{Bool, true, false, not, ◌&&◌, ◌||◌, cond}
use lib.Dec.{leb, ltb}
use lib.Ieee.{Float}
use Rattle.types.specs.declared.Point2.{Point2}
use Rattle.types.specs.declared.PositionSample.{PositionSample}
use Rattle.types.specs.declared.Telemetry.{Telemetry}
use Rattle.geometry.specs.declared.FenceDistance.{FenceDistance}
use Rattle.time.specs.Time.{Clock, age}
use Rattle.config.specs.declared.Config.{Config}
use Rattle.validate.specs.declared.GlitchState.{GlitchState}
use Rattle.validate.specs.declared.Filtered.{Filtered}
use Rattle.validate.specs.declared.ValidatedTelemetry.{ValidatedTelemetry}
use Rattle.validate.specs.Bounds.{validate_position_sample, validate_gps, position_ok, gps_ok, percent_ok, remaining_ok, keep, validate_telemetry}
use Rattle.validate.specs.Glitch.{accept_after, accept_sample, accept_stored, apply_glitch_filter}
use Rattle.triggers.specs.Families.{is_present}
use Rattle.supervisor.specs.Step.{place_of, dist_of}
use Rattle.instants.specs.Retimed.{instead, sample_at, position_at, glitch_at, gps_at, value_at, Stamps, telemetry_at}
use Rattle.instants.specs.Own.{position_stamp, gps_stamp, value_stamp}
use Rattle.marks.specs.Marks.{up_to2000, gap_now}
use Rattle.alike.specs.Alike.{FreshAlike, ReadAlike}
use Rattle.alike.proofs.Choices.{choose}
use Rattle.types.specs.declared.Stamped.{Stamped}
use Rattle.types.specs.declared.GpsSample.{GpsSample}

-- ---- validation reads no stamp

position_ok_lem : (x : ℕ) (p : Option PositionSample) → position_ok (position_at x p) ≡ position_ok p
unfolding validate_position_sample
position_ok_lem x None = refl
position_ok_lem x (Some p) = refl

gps_ok_lem : (x : ℕ) (p : Option GpsSample) → gps_ok (gps_at x p) ≡ gps_ok p
unfolding validate_gps
gps_ok_lem x None = refl
gps_ok_lem x (Some p) = refl

percent_ok_lem : (x : ℕ) (p : Option (Stamped Float)) → percent_ok (value_at x p) ≡ percent_ok p
percent_ok_lem x None = refl
percent_ok_lem x (Some r) = refl

remaining_ok_lem : (x : ℕ) (p : Option (Stamped Float)) (cap : Float) → remaining_ok (value_at x p) cap ≡ remaining_ok p cap
remaining_ok_lem x None cap = refl
remaining_ok_lem x (Some r) cap = refl

abbrev pub validated_at : Stamps → ValidatedTelemetry → ValidatedTelemetry
validated_at j v = record { telemetry = telemetry_at j v.telemetry; invalid_input = v.invalid_input }

pub validate_law : (j : Stamps) (t : Telemetry) (cap : Float) → validate_telemetry (telemetry_at j t) cap ≡ validated_at j (validate_telemetry t cap)
unfolding validate_telemetry telemetry_at
validate_law j t cap =
    let p = position_ok_lem j.position t.position in
    let g = gps_ok_lem j.gps t.gps in
    let v = percent_ok_lem j.voltage t.battery.voltage_v in
    let c = percent_ok_lem j.percent t.battery.percent in
    let r = remaining_ok_lem j.remaining t.battery.remaining_wh cap in
    let position = choose (position_at j.position) {u = t.position} {v = None} p refl refl in
    let gps = choose (gps_at j.gps) {u = t.gps} {v = None} g refl refl in
    let voltage = choose (value_at j.voltage) {u = t.battery.voltage_v} {v = None} v refl refl in
    let percent = choose (value_at j.percent) {u = t.battery.percent} {v = None} c refl refl in
    let remaining = choose (value_at j.remaining) {u = t.battery.remaining_wh} {v = None} r refl refl in
    λ k. record {
      telemetry =
          record {
            now_ms = j.now;
            position = position k;
            gps = gps k;
            battery = record { voltage_v = voltage k; percent = percent k; remaining_wh = remaining k };
            gcs_heartbeat_ms = (telemetry_at j t).gcs_heartbeat_ms;
            armed = (telemetry_at j t).armed;
            landed = (telemetry_at j t).landed;
            rc_ok = (telemetry_at j t).rc_ok;
            ekf_ok = (telemetry_at j t).ekf_ok;
          };
      invalid_input = not (p k && g k && v k && c k && r k);
    }

-- a reading that is dropped is fresh on neither clock
module _ (c1 c2 : Clock) (now1 now2 l1 l2 x : ℕ) where
  position_kept : (ok : Bool) (p : Option PositionSample) → FreshAlike c1 c2 now1 now2 x (position_stamp p) l1 l2 → FreshAlike c1 c2 now1 now2 x (position_stamp (keep ok p)) l1 l2
  position_kept true p e = e
  position_kept false p e = refl

  gps_kept : (ok : Bool) (p : Option GpsSample) → FreshAlike c1 c2 now1 now2 x (gps_stamp p) l1 l2 → FreshAlike c1 c2 now1 now2 x (gps_stamp (keep ok p)) l1 l2
  gps_kept true p e = e
  gps_kept false p e = refl

  value_kept : (ok : Bool) (p : Option (Stamped Float)) → FreshAlike c1 c2 now1 now2 x (value_stamp p) l1 l2 → FreshAlike c1 c2 now1 now2 x (value_stamp (keep ok p)) l1 l2
  value_kept true p e = e
  value_kept false p e = refl

pub validated_read : (c1 c2 : Clock) (cfg d : Config) (t : Telemetry) (j : Stamps) (cap : Float) → ReadAlike c1 c2 cfg d t j → ReadAlike c1 c2 cfg d (validate_telemetry t cap).telemetry j
unfolding validate_telemetry
validated_read c1 c2 cfg d t j cap read =
    record {
      position = position_kept c1 c2 t.now_ms j.now cfg.pos_fresh_ms d.pos_fresh_ms j.position (position_ok t.position) t.position read.position;
      gps = gps_kept c1 c2 t.now_ms j.now cfg.gps_fresh_ms d.gps_fresh_ms j.gps (gps_ok t.gps) t.gps read.gps;
      voltage = value_kept c1 c2 t.now_ms j.now cfg.battery_fresh_ms d.battery_fresh_ms j.voltage (percent_ok t.battery.voltage_v) t.battery.voltage_v read.voltage;
      percent = value_kept c1 c2 t.now_ms j.now cfg.battery_fresh_ms d.battery_fresh_ms j.percent (percent_ok t.battery.percent) t.battery.percent read.percent;
      remaining = value_kept c1 c2 t.now_ms j.now cfg.battery_fresh_ms d.battery_fresh_ms j.remaining (remaining_ok t.battery.remaining_wh cap) t.battery.remaining_wh read.remaining;
      armed = read.armed;
      landed = read.landed;
      rc = read.rc;
      ekf = read.ekf;
      rtl = read.rtl;
      hold = read.hold;
      warn = read.warn;
      clear = read.clear;
    }

-- ---- the filter

-- it reads a gap up to 2000
near_by : (b : Bool) (gap : ℕ) (last sample : PositionSample) (v : Float) → ltb 2000 gap ≡ b → accept_after (Some gap) last sample v ≡ accept_after (cond b None (Some gap)) last sample v
near_by true gap last sample v e = rw e
near_by false gap last sample v e = refl

near : (gap : Option ℕ) (last sample : PositionSample) (v : Float) → accept_after gap last sample v ≡ accept_after (up_to2000 gap) last sample v
near None last sample v = refl
near (Some gap) last sample v = near_by (ltb 2000 gap) gap last sample v refl

-- and no stamp
unstamped : (gap : Option ℕ) (x y : ℕ) (last sample : PositionSample) (v : Float) → accept_after gap (sample_at x last) (sample_at y sample) v ≡ accept_after gap last sample v
unstamped None x y last sample v = refl
unstamped (Some gap) x y last sample v = refl

-- where a sample was left, it is the one stored
abbrev pub stored_at : (Point2 → FenceDistance) → Option PositionSample → ℕ → ℕ → ℕ
stored_at at left x y = cond (is_present (dist_of (place_of at left))) y x

abbrev pub filtered_at : (Point2 → FenceDistance) → ℕ → ℕ → Filtered → Filtered
filtered_at at x y f = record { glitch = glitch_at (stored_at at f.position x y) f.glitch; position = position_at y f.position }

module _ (c1 c2 : Clock) (now1 now2 x y : ℕ) (v_max : Float) where
  accept_law : (stored : Option PositionSample) (streak : ℕ) (sample : PositionSample) → gap_now c2 now2 (instead x (position_stamp stored)) ≡ gap_now c1 now1 (position_stamp stored) → accept_stored c2 (position_at x stored) streak now2 (sample_at y sample) v_max ≡ accept_stored c1 stored streak now1 sample v_max
  unfolding accept_sample
  accept_law None streak sample e = refl
  accept_law (Some last) streak sample e =
      ap (λ b. leb 3 streak || b)
      (unstamped (age c2 now2 x) x y last sample v_max
      ∙ near (age c2 now2 x) last sample v_max
      ∙ ap (λ g. accept_after g last sample v_max) e
      ∙ sym (near (age c1 now1 last.t_ms) last sample v_max))

  pub filter_law : (at : Point2 → FenceDistance) (g : GlitchState) (p : Option PositionSample) → gap_now c2 now2 (instead x (position_stamp g.last_accepted)) ≡ gap_now c1 now1 (position_stamp g.last_accepted) → apply_glitch_filter c2 (glitch_at x g) now2 (position_at y p) v_max ≡ filtered_at at x y (apply_glitch_filter c1 g now1 p v_max)
  unfolding apply_glitch_filter
  filter_law at g None e = refl
  filter_law at g (Some sample) e = choose (filtered_at at x y) (accept_law g.last_accepted g.reject_streak sample e) refl refl

  of_either : (l1 l2 : ℕ) (b : Bool) (u v : Filtered) → FreshAlike c1 c2 now1 now2 y (position_stamp u.position) l1 l2 → FreshAlike c1 c2 now1 now2 y (position_stamp v.position) l1 l2 → FreshAlike c1 c2 now1 now2 y (position_stamp (cond b u v).position) l1 l2
  of_either l1 l2 true u v p q = p
  of_either l1 l2 false u v p q = q

  pub left_fresh : (l1 l2 : ℕ) (g : GlitchState) (p : Option PositionSample) → FreshAlike c1 c2 now1 now2 y (position_stamp p) l1 l2 → FreshAlike c1 c2 now1 now2 y (position_stamp (apply_glitch_filter c1 g now1 p v_max).position) l1 l2
  unfolding apply_glitch_filter
  left_fresh l1 l2 g None e = refl
  left_fresh l1 l2 g (Some sample) e = of_either l1 l2 (accept_stored c1 g.last_accepted g.reject_streak now1 sample v_max) _ _ e refl
