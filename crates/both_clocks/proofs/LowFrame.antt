-- A kind 9's bytes as a kind 3 with the low halves of its instants. Assumes nothing.
use Rattle.wire.specs.declared.FrameError.{FrameError}
use Rattle.std.specs.Prelude.{Option, Some, None, Float, Result, Ok, Err}
use Prim.Native.Nat.{ℕ, zero, suc, ◌%◌, ◌^◌, ◌<◌}
use native.Mathlib.Omega.{arith}
use mathlib.Core.Bool.{Bool}
use mathlib.Core.List.{List, [], ◌∷◌}
use mathlib.Core.Path.{◌≡◌, refl, ap, sym, ◌∙◌}
use lib.Dec.{lit<}
use lib.ListN.{get_or, replicate}
use Rattle.types.specs.declared.Telemetry.{Telemetry}
use Rattle.wire.specs.Frame.{frame_number, check_frame}
use Rattle.wire.proofs.Read.{behind_head}
use Rattle.frame_telemetry.specs.TelemetryFrame.{read_telemetry}
use Rattle.instants.specs.Retimed.{instead, position_at, Stamps, gps_at, value_at, flag_at, landed_at, telemetry_at}
use Rattle.instants.specs.Own.{own, position_stamp, gps_stamp, value_stamp, flag_stamp, landed_stamp, stamps_of}
use Rattle.instants.specs.Listed.{stamps_listed, stamps_unlisted}
use Rattle.frame_wide.specs.WideTelemetry.{telemetry_on, wide_stamps, with_stamps, read_wide_telemetry}
use Rattle.frame_wide_trips.specs.Claim.{Words}
use Rattle.frame_wide_trips.proofs.Claim.{telemetry_laws}
use Rattle.both_clocks.specs.Claim.{low_stamps, without_upper, LowFrameClaim}
use Rattle.types.specs.declared.Stamped.{Stamped}
use Rattle.types.specs.declared.LandedState.{LandedState}
use Rattle.types.specs.declared.PositionSample.{PositionSample}
use Rattle.types.specs.declared.GpsSample.{GpsSample}

-- ---- a reading at a stamp, without its upper half

instead_low : (j : ℕ) (o : Option ℕ) → instead (own (instead j o) % 2 ^ 32) (instead j o) ≡ instead (j % 2 ^ 32) o
instead_low j None = refl
instead_low j (Some x) = refl

position_low : (j : ℕ) (o : Option PositionSample) → position_at (own (position_stamp (position_at j o)) % 2 ^ 32) (position_at j o) ≡ position_at (j % 2 ^ 32) o
position_low j None = refl
position_low j (Some p) = refl

gps_low : (j : ℕ) (o : Option GpsSample) → gps_at (own (gps_stamp (gps_at j o)) % 2 ^ 32) (gps_at j o) ≡ gps_at (j % 2 ^ 32) o
gps_low j None = refl
gps_low j (Some g) = refl

value_low : (j : ℕ) (o : Option (Stamped Float)) → value_at (own (value_stamp (value_at j o)) % 2 ^ 32) (value_at j o) ≡ value_at (j % 2 ^ 32) o
value_low j None = refl
value_low j (Some r) = refl

flag_low : (j : ℕ) (o : Option (Stamped Bool)) → flag_at (own (flag_stamp (flag_at j o)) % 2 ^ 32) (flag_at j o) ≡ flag_at (j % 2 ^ 32) o
flag_low j None = refl
flag_low j (Some r) = refl

landed_low : (j : ℕ) (o : Option (Stamped LandedState)) → landed_at (own (landed_stamp (landed_at j o)) % 2 ^ 32) (landed_at j o) ≡ landed_at (j % 2 ^ 32) o
landed_low j None = refl
landed_low j (Some r) = refl

low_at_lem : (j : Stamps) (u : Telemetry) → without_upper (telemetry_at j u) ≡ telemetry_at (low_stamps j) u
unfolding telemetry_at stamps_of low_stamps
low_at_lem j u =
    λ i. record {
      now_ms = j.now % 2 ^ 32;
      position = position_low j.position u.position i;
      gps = gps_low j.gps u.gps i;
      battery =
          record {
            voltage_v = value_low j.voltage u.battery.voltage_v i;
            percent = value_low j.percent u.battery.percent i;
            remaining_wh = value_low j.remaining u.battery.remaining_wh i;
          };
      gcs_heartbeat_ms = instead_low j.heartbeat u.gcs_heartbeat_ms i;
      armed = flag_low j.armed u.armed i;
      landed = landed_low j.landed u.landed i;
      rc_ok = flag_low j.rc u.rc_ok i;
      ekf_ok = flag_low j.ekf u.ekf_ok i;
    }

-- ---- the low halves are numbers of 32 bits

abbrev AllSmall : List ℕ → Type 0
AllSmall [] = Unit {0}
AllSmall (x ∷ l) = (x < 2 ^ 32) × AllSmall l

small_at : (l : List ℕ) → AllSmall l → (k : ℕ) → get_or l k 0 < 2 ^ 32
small_at [] h k = lit< tt
small_at (x ∷ l) h zero = h.0
small_at (x ∷ l) h (suc k) = small_at l h.1 k

low_words : (j : Stamps) → Words 11 (stamps_listed (low_stamps j))
unfolding stamps_listed low_stamps
low_words j =
    let s : (x : ℕ) → x % 2 ^ 32 < 2 ^ 32 = λ x. omega arith in
    record {
      count = refl;
      each = small_at (stamps_listed (low_stamps j)) (s j.now, (s j.position, (s j.gps, (s j.voltage, (s j.percent, (s j.remaining, (s j.heartbeat, (s j.armed, (s j.landed, (s j.rc, (s j.ekf, tt)))))))))));
    }

stamps_back : (j : Stamps) → stamps_unlisted (stamps_listed j) ≡ j
unfolding stamps_unlisted stamps_listed
stamps_back j = refl

-- ---- the claim

pub low_frame_claim : LowFrameClaim
unfolding read_wide_telemetry
low_frame_claim s t e =
    let h = behind_head (check_frame 9 148 s) (with_stamps (wide_stamps s) read) t e in
    telemetry_laws.marks_read (stamps_listed (low_stamps (wide_stamps s))) s (low_words (wide_stamps s)) (ap frame_number h.0)
    ∙ ap (λ (j : Stamps). with_stamps j read) (stamps_back (low_stamps (wide_stamps s)))
    ∙ with_low read h.1
  where
    read : Result Telemetry FrameError
    read = read_telemetry (telemetry_on (replicate 11 0) s)

    with_low : (u : Result Telemetry FrameError) → with_stamps (wide_stamps s) u ≡ Ok t → with_stamps (low_stamps (wide_stamps s)) u ≡ Ok (without_upper t)
    with_low (Err d) e = cc
    with_low (Ok u) e =
        let f : telemetry_at (wide_stamps s) u ≡ t = cc in
        ap Ok (sym (low_at_lem (wide_stamps s) u) ∙ ap without_upper f)
