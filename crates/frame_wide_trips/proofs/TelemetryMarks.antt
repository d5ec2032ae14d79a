-- A kind 9 with marks for its instants, read. Assumes nothing.
use Rattle.std.specs.Prelude.{Option, Some, None}
use Prim.Native.Nat.{ℕ, ◌+◌, ◌^◌, ◌<◌, min}
use mathlib.Core.Path.{◌≡◌, ◌∙◌, ap, refl, sym}
use mathlib.Core.Bool.{Bool, true, false, ◌&&◌}
use mathlib.Core.List.{List, ◌++◌}
use lib.Ieee.{Float}
use lib.ListN.{get_or, replicate}
use Rattle.types.specs.declared.Vec3.{Vec3}
use Rattle.types.specs.declared.GpsFix.{GpsFix}
use Rattle.types.specs.declared.LandedState.{LandedState}
use Rattle.types.specs.declared.Telemetry.{Telemetry}
use Rattle.wire.specs.Fields.{u8_at, number_at, u16_at, u32_at, f32_at, flag_at, byte_below, le_bytes, le16, le32, elements_from, bytes_from}
use Rattle.wire.specs.Frame.{frame_fault, frame_head, check_frame}
use Rattle.wire.proofs.Fields.{u32_back}
use Rattle.wire.proofs.Head.{number_zero, head_says}
use Rattle.wire.proofs.Whole.{whole}
use Rattle.options.specs.Options.{zeros, valid_option, option_u8_at, option_u32_at, option_f32_at}
use Rattle.options.specs.Position.{vec3_at, option_position_at}
use Rattle.wire.proofs.Read.{in_range}
use Rattle.frame_telemetry.specs.Readings.{fix_at, landed_at, option_gps_at, stamped_f32_at, stamped_bool_at, stamped_landed_at}
use Rattle.frame_telemetry.specs.TelemetryFrame.{telemetry_at, telemetry_tests, telemetry_valid, read_telemetry}
use Rattle.instants.specs.Retimed.{Stamps, instead, position_at, gps_at, value_at}
use Rattle.instants.specs.Retimed.{flag_at as flag_with, landed_at as landed_with, telemetry_at as telemetry_with}
use Rattle.instants.specs.Listed.{stamps_unlisted}
use Rattle.frame_wide.specs.Resized.{narrowed}
use Rattle.frame_wide.specs.WideTelemetry.{telemetry_gaps, telemetry_on, with_stamps}
use Rattle.frame_wide_trips.specs.Claim.{Words}
use Rattle.frame_wide_trips.proofs.Instant.{test_of, test_on, value_of, value_on}
use Rattle.types.specs.declared.Stamped.{Stamped}
use Rattle.types.specs.declared.PositionSample.{PositionSample}
use Rattle.types.specs.declared.GpsSample.{GpsSample}

-- readings by their stamps
abbrev sample_of : Vec3 → Vec3 → ℕ → Option PositionSample
sample_of p v n = Some (record { t_ms = n; pos = p; vel = v })

abbrev gps_of : GpsFix → Option ℕ → Option Float → ℕ → Option GpsSample
gps_of f u h n = Some (record { t_ms = n; fix = f; sats = u; hdop = h })

abbrev float_of : Float → ℕ → Option (Stamped Float)
float_of x n = Some (record { t_ms = n; value = x })

abbrev flag_of : Bool → ℕ → Option (Stamped Bool)
flag_of b n = Some (record { t_ms = n; value = b })

abbrev landed_of : LandedState → ℕ → Option (Stamped LandedState)
landed_of l n = Some (record { t_ms = n; value = l })

module _ (given s : List ℕ) where
  abbrev row : List ℕ
  row = elements_from 0 given 0 11

  abbrev none : List ℕ
  none = replicate 11 0

  abbrev all : List ℕ
  all = bytes_from s 0 150

  abbrev mark : ℕ → ℕ
  mark k = get_or given k 0

  -- where a stamp whose flag is at k is not there
  abbrev else : ℕ → ℕ
  else k = min (number_at 8 s (k + 1)) 1

  -- the stamp and the r bytes behind it are 0
  abbrev zero_and : ℕ → ℕ → ℕ → Bool
  zero_and at r n = zeros (le_bytes 4 n ++ bytes_from s (at + 9) r) 0 (4 + r)

  test : (at k r : ℕ) → test_of (zero_and at r) (get_or s at 0) (mark k) (else at) ≡ test_of (zero_and at r) (get_or s at 0) 0 (else at)
  test at k r = test_on (zero_and at r) (get_or s at 0) (mark k) (else at)

  valid_on : telemetry_valid (telemetry_on row all) ≡ telemetry_valid (telemetry_on none all)
  unfolding telemetry_valid telemetry_tests valid_option zeros byte_below telemetry_on narrowed telemetry_gaps frame_head le16 le_bytes u8_at number_at
  valid_on =
      let t = telemetry_on none all in
      λ j.
      ((((((((((((((((test 12 1 24 j && test 45 2 8 j) && byte_below t 42 3) && valid_option t 43 1) && valid_option t 45 4)
      && test 62 3 4 j) && test 75 4 4 j) && test 88 5 4 j)
      && test 101 6 0 j)
      && test 110 7 1 j) && byte_below t 87 2) && test 120 8 1 j) && byte_below t 93 5)
      && test 130 9 1 j) && byte_below t 99 2) && test 140 10 1 j) && byte_below t 105 2)

  module _ (w : (k : ℕ) → mark k < 2 ^ 32) where
    -- the reading whose flag is at `at`, at its mark
    value :
        {O : Type 0} (some : ℕ → O) (none : O) (with : O → O) (at k : ℕ) → ((u : ℕ) → with (some u) ≡ some (mark k)) → with none ≡ none →
        value_of some none (get_or s at 0) (mark k) (else at) ≡ with (value_of some none (get_or s at 0) 0 (else at))
    value some none with at k p q = value_on some none with (get_or s at 0) (mark k) (else at) (w k) p q

    fields_on : telemetry_at (telemetry_on row all) ≡ telemetry_with (stamps_unlisted given) (telemetry_at (telemetry_on none all))
    unfolding telemetry_at telemetry_with option_position_at vec3_at option_gps_at fix_at landed_at option_u8_at option_u32_at option_f32_at stamped_f32_at stamped_bool_at stamped_landed_at stamps_unlisted telemetry_on narrowed telemetry_gaps frame_head le16 le32 le_bytes u8_at number_at flag_at u32_at f32_at
    fields_on =
        let t = telemetry_on none all in
        λ j.
        record {
          now_ms = u32_back (mark 0) (w 0) j;
          position = value (sample_of (vec3_at t 13) (vec3_at t 25)) None (position_at (mark 1)) 12 1 (λ u. refl) refl j;
          gps = value (gps_of (fix_at t 42) (option_u8_at t 43) (option_f32_at t 45)) None (gps_at (mark 2)) 45 2 (λ u. refl) refl j;
          battery =
              record {
                voltage_v = value (float_of (f32_at t 55)) None (value_at (mark 3)) 62 3 (λ u. refl) refl j;
                percent = value (float_of (f32_at t 64)) None (value_at (mark 4)) 75 4 (λ u. refl) refl j;
                remaining_wh = value (float_of (f32_at t 73)) None (value_at (mark 5)) 88 5 (λ u. refl) refl j;
              };
          gcs_heartbeat_ms = value Some None (instead (mark 6)) 101 6 (λ u. refl) refl j;
          armed = value (flag_of (flag_at t 87)) None (flag_with (mark 7)) 110 7 (λ u. refl) refl j;
          landed = value (landed_of (landed_at t 93)) None (landed_with (mark 8)) 120 8 (λ u. refl) refl j;
          rc_ok = value (flag_of (flag_at t 99)) None (flag_with (mark 9)) 130 9 (λ u. refl) refl j;
          ekf_ok = value (flag_of (flag_at t 105)) None (flag_with (mark 10)) 140 10 (λ u. refl) refl j;
        }

pub frame_on : (given s : List ℕ) → frame_fault 3 104 (telemetry_on (elements_from 0 given 0 11) (bytes_from s 0 150)) ≡ 0
unfolding check_frame telemetry_on narrowed telemetry_gaps frame_head le16 le_bytes u8_at number_at u16_at
frame_on given s = refl

-- what a kind 3 without a fault of its head is read as
pub opened : (t : List ℕ) → frame_fault 3 104 t ≡ 0 → read_telemetry t ≡ in_range (telemetry_valid t) (telemetry_at t)
unfolding read_telemetry
opened t h = simp (number_zero _ h)

with_stamps_lem : (b : Bool) (j : Stamps) (t : Telemetry) → in_range b (telemetry_with j t) ≡ with_stamps j (in_range b t)
with_stamps_lem true j t = refl
with_stamps_lem false j t = refl

pub marks_read :
    (given s : List ℕ) → Words 11 given → frame_fault 9 148 s ≡ 0 →
    read_telemetry (telemetry_on given s) ≡ with_stamps (stamps_unlisted given) (read_telemetry (telemetry_on (replicate 11 0) s))
marks_read given s w h =
    let none : List ℕ = replicate 11 0 in
    let e = whole 0 11 given w.count in
    let f = whole 0 150 s (head_says 9 148 s h).1.1 in
    let i = stamps_unlisted given in
    let t = telemetry_at (telemetry_on none (all given s)) in
    (λ j. read_telemetry (telemetry_on (sym e j) (sym f j)))
    ∙ opened (telemetry_on (row given s) (all given s)) (frame_on given s)
    ∙ (λ j. in_range (valid_on given s j) (fields_on given s w.each j))
    ∙ with_stamps_lem (telemetry_valid (telemetry_on none (all given s))) i t
    ∙ ap (with_stamps i) (sym (opened (telemetry_on none (all given s)) (frame_on none s)))
    ∙ ap (λ (l : List ℕ). with_stamps i (read_telemetry (telemetry_on none l))) f
