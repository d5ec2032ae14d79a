-- A kind 9 read and written again. Assumes nothing.
use Rattle.std.specs.Prelude.{Option, Some, None, unwrap_or}
use Prim.Native.Nat.{ℕ, zero, suc, ◌+◌, ◌^◌, ◌<◌}
use mathlib.Core.Path.{◌≡◌, ◌∙◌, ap, refl, sym, subst}
use mathlib.Core.Bool.{Bool, true, false, cond}
use mathlib.Core.List.{List, [], ◌∷◌, ◌++◌}
use lib.Dec.{T, lit<}
use lib.ListN.{get_or, drop, replicate}
use lib.Ieee.{binary32, fits, of_bits}
use lib.Ieee.Bits.{of_bits-fits}
use Rattle.types.specs.declared.GpsFix.{GpsFix}
use Rattle.types.specs.declared.LandedState.{LandedState}
use Rattle.types.specs.declared.Telemetry.{Telemetry}
use Rattle.types.specs.Numbers.{fix_number, landed_number}
use Rattle.wire.specs.Fields.{Bytes, u8_at, number_at, flag_at, u32_at, f32_at, le_bytes, le16, le32, le_f32, bytes_from}
use Rattle.wire.specs.Cell.{Within, U16, F32, sorts_of, NoNan, nan_rewritten, widths}
use Rattle.wire.specs.Frame.{check_frame, frame_number, frame_fault, frame_head}
use Rattle.wire.proofs.Fields.{f32_fits}
use Rattle.wire.proofs.Head.{head_says, head_bytes}
use Rattle.wire.proofs.Number.{number_bytes}
use Rattle.wire.proofs.Cells.{nan_free}
use Rattle.wire.proofs.Whole.{whole, each}
use Rattle.options.specs.Options.{zeros, valid_option, option_u8_at, option_f32_at}
use Rattle.options.specs.Position.{vec3_at, option_position_at, position_cells}
use Rattle.std.specs.Prelude.{Result, Ok, Err}
use Rattle.wire.specs.declared.FrameError.{FrameError}
use Rattle.wire.proofs.Read.{behind_head, within_range}
use Rattle.frame_telemetry.specs.Readings.{fix_at, option_gps_at, gps_cells, stamped_f32_at, stamped_f32_cells}
use Rattle.frame_telemetry.specs.TelemetryFrame.{telemetry_at, telemetry_tests, telemetry_valid, read_telemetry, battery_cells, status_cells, telemetry_cells}
use Rattle.frame_telemetry_trips.proofs.Trips.{within_joined, bytes_back}
use Rattle.instants.specs.Retimed.{Stamps, instead, position_at, gps_at, value_at}
use Rattle.instants.specs.Retimed.{flag_at as flag_with, landed_at as landed_with, telemetry_at as telemetry_with}
use Rattle.instants.specs.Own.{stamps_of}
use Rattle.instants.specs.Listed.{stamps_listed, stamps_unlisted}
use Rattle.frame_wide.specs.Resized.{instants_at, narrowed, widened}
use Rattle.frame_wide.specs.WideTelemetry.{telemetry_gaps, telemetry_on, wide_stamps, with_stamps, read_wide_telemetry, wide_telemetry_frame}
use Rattle.frame_wide_trips.specs.Claim.{wide_sorts, zero_stamps, TypedTelemetry}
use Rattle.frame_wide_trips.proofs.Readings.{instant_lt, sample_lt, gps_lt, value_lt, flag_lt, landed_lt}
use Rattle.frame_wide_trips.proofs.Resized.{bytes_on, instants_lt, eight_bytes}
use Rattle.frame_wide_trips.proofs.TelemetryMarks.{frame_on, opened}
use Rattle.frame_wide_trips.proofs.TelemetryTrips.{written}
use Rattle.types.specs.declared.Stamped.{Stamped}

-- what an accepted kind 9 says
pub record Accepted (s : List ℕ) (t : Telemetry) : Type 0 where
  pub head : frame_fault 9 148 s ≡ 0
  pub inner : Telemetry
  pub read : read_telemetry (telemetry_on (replicate 11 0) s) ≡ Ok inner
  pub at : telemetry_with (wide_stamps s) inner ≡ t

pub wide_accepted : (s : List ℕ) (t : Telemetry) → read_wide_telemetry s ≡ Ok t → Accepted s t
unfolding read_wide_telemetry
wide_accepted s t e =
    let a = behind_head (check_frame 9 148 s) (with_stamps (wide_stamps s) (read_telemetry (telemetry_on (replicate 11 0) s))) t e in
    go (read_telemetry (telemetry_on (replicate 11 0) s)) refl a.1 (ap frame_number a.0)
  where
    go : (r : Result Telemetry FrameError) → read_telemetry (telemetry_on (replicate 11 0) s) ≡ r → with_stamps (wide_stamps s) r ≡ Ok t → frame_fault 9 148 s ≡ 0 → Accepted s t
    go (Ok y) q h p = record { head = p; inner = y; read = q; at = cc }
    go (Err d) q h p = cc

long : (t : Telemetry) → widths (wide_sorts (sorts_of (telemetry_cells t))) ≡ 146
unfolding telemetry_cells battery_cells status_cells
long t = refl

module _ (s : List ℕ) (b : Bytes s) (h : frame_fault 9 148 s ≡ 0) where
  abbrev all : List ℕ
  all = bytes_from s 0 150

  -- the kind 3, with 0 for each instant that is there
  abbrev narrow : List ℕ
  narrow = telemetry_on (replicate 11 0) all

  on_bytes : (given : List ℕ) → Bytes (telemetry_on given s)
  unfolding telemetry_on
  on_bytes given = bytes_on 3 104 telemetry_gaps given s b

  cells :
      telemetry_valid narrow ≡ true → (u t : Telemetry) →
      frame_head 9 148 ++ widened telemetry_gaps (stamps_listed (wide_stamps all)) (drop 4 (nan_rewritten (U16 ∷ U16 ∷ sorts_of (telemetry_cells u)) narrow 0))
      ≡ nan_rewritten (U16 ∷ U16 ∷ wide_sorts (sorts_of (telemetry_cells t))) s 0
  unfolding telemetry_valid telemetry_tests telemetry_cells battery_cells status_cells valid_option zeros wide_stamps instants_at stamps_listed stamps_unlisted telemetry_on narrowed widened telemetry_gaps frame_head le16 le32 le_f32 le_bytes u8_at number_at u32_at f32_at
  cells v u t =
      let e = each (valid_option narrow 8 28) (telemetry_tests narrow) v in
      let g = e.1 in
      let g4 = g.1.1.1.1 in
      let g8 = g4.1.1.1.1 in
      let g12 = g8.1.1.1.1 in
      λ j.
      head_bytes 9 148 s b h j
      ++ (number_bytes 8 s 4 b j
      ++ (u8_at s 12 ∷ eight_bytes (bytes_from s 21 24) 27 s 13 (u8_at s 12) b e.0 j
      ++ (nan_rewritten (F32 ∷ F32 ∷ F32 ∷ F32 ∷ F32 ∷ F32 ∷ []) s 21
      ++ (u8_at s 45 ∷ eight_bytes (bytes_from s 54 8) 11 s 46 (u8_at s 45) b g.0 j
      ++ (bytes_from s 54 4
      ++ (le_f32 (f32_at s 58)
      ++ (u8_at s 62 ∷ eight_bytes (bytes_from s 71 4) 7 s 63 (u8_at s 62) b g4.0 j
      ++ (le_f32 (f32_at s 71)
      ++ (u8_at s 75 ∷ eight_bytes (bytes_from s 84 4) 7 s 76 (u8_at s 75) b g4.1.0 j
      ++ (le_f32 (f32_at s 84)
      ++ (u8_at s 88 ∷ eight_bytes (bytes_from s 97 4) 7 s 89 (u8_at s 88) b g4.1.1.0 j
      ++ (le_f32 (f32_at s 97)
      ++ (u8_at s 101 ∷ eight_bytes [] 3 s 102 (u8_at s 101) b g4.1.1.1.0 j
      ++ (u8_at s 110 ∷ eight_bytes (bytes_from s 119 1) 4 s 111 (u8_at s 110) b g8.0 j
      ++ (bytes_from s 119 1
      ++ (u8_at s 120 ∷ eight_bytes (bytes_from s 129 1) 4 s 121 (u8_at s 120) b g8.1.1.0 j
      ++ (bytes_from s 129 1
      ++ (u8_at s 130 ∷ eight_bytes (bytes_from s 139 1) 4 s 131 (u8_at s 130) b g12.0 j
      ++ (bytes_from s 139 1
      ++ (u8_at s 140 ∷ eight_bytes (bytes_from s 149 1) 4 s 141 (u8_at s 140) b g12.1.1.0 j
      ++ bytes_from s 149 1))))))))))))))))))))

  rewritten :
      (u t : Telemetry) → read_telemetry (telemetry_on (replicate 11 0) s) ≡ Ok u →
      wide_telemetry_frame (telemetry_with (wide_stamps s) u) ≡ nan_rewritten (U16 ∷ U16 ∷ wide_sorts (sorts_of (telemetry_cells t))) s 0
  rewritten u t e =
      let none : List ℕ = replicate 11 0 in
      let f = whole 0 150 s (head_says 9 148 s h).1.1 in
      let a = within_range (telemetry_valid narrow) (telemetry_at narrow) u (sym (opened narrow (frame_on none s)) ∙ ap (λ (l : List ℕ). read_telemetry (telemetry_on none l)) f ∙ e) in
      let kind3 = bytes_back (telemetry_on none s) u (on_bytes none) e in
      written u (wide_stamps s)
      ∙ ap (λ (l : List ℕ). frame_head 9 148 ++ widened telemetry_gaps (stamps_listed (wide_stamps s)) (drop 4 l)) kind3
      ∙ ap (λ (l : List ℕ). frame_head 9 148 ++ widened telemetry_gaps (stamps_listed (wide_stamps l)) (drop 4 (nan_rewritten (U16 ∷ U16 ∷ sorts_of (telemetry_cells u)) (telemetry_on none l) 0))) (sym f)
      ∙ cells a.0 u t

-- bytes, value, bytes: each NaN's bits become 7FC00000
pub bytes_again :
    (s : List ℕ) (t : Telemetry) → Bytes s → read_wide_telemetry s ≡ Ok t → wide_telemetry_frame t ≡ nan_rewritten (U16 ∷ U16 ∷ wide_sorts (sorts_of (telemetry_cells t))) s 0
bytes_again s t b e = let a = wide_accepted s t e in sym (ap wide_telemetry_frame a.at) ∙ rewritten s b a.head a.inner t a.read

-- the very bytes, where no float is a NaN
pub bytes_same :
    (s : List ℕ) (t : Telemetry) → Bytes s → read_wide_telemetry s ≡ Ok t → NoNan (U16 ∷ U16 ∷ wide_sorts (sorts_of (telemetry_cells t))) s 0 → wide_telemetry_frame t ≡ s
bytes_same s t b e n =
    bytes_again s t b e
    ∙ nan_free (U16 ∷ U16 ∷ wide_sorts (sorts_of (telemetry_cells t))) s 0 b n
    ∙ ap (λ (k : ℕ). bytes_from s 0 (2 + (2 + k))) (long t)
    ∙ whole 0 150 s (head_says 9 148 s (wide_accepted s t e).head).1.1

-- ---- what was read is within its types

fix_fits : (f : GpsFix) → fix_number f < 2 ^ 8
fix_fits GpsFix.None = lit< tt
fix_fits GpsFix.Fix2D = lit< tt
fix_fits GpsFix.Fix3D = lit< tt

landed_number_lem : (l : LandedState) → landed_number l < 2 ^ 8
landed_number_lem LandedState.Undefined = lit< tt
landed_number_lem LandedState.OnGround = lit< tt
landed_number_lem LandedState.InAir = lit< tt
landed_number_lem LandedState.Takeoff = lit< tt
landed_number_lem LandedState.Landing = lit< tt

module _ (n : List ℕ) (b : Bytes n) where
  zero_fits : T (fits binary32 (unwrap_or None (of_bits binary32 0)))
  zero_fits = of_bits-fits binary32 0

  u8_fits : (i : ℕ) → unwrap_or (option_u8_at n i) 0 < 2 ^ 8
  unfolding option_u8_at Bytes
  u8_fits i = go (flag_at n i)
    where
      go : (f : Bool) → unwrap_or (cond f (Some (u8_at n (i + 1))) None) 0 < 2 ^ 8
      go true = b (i + 1)
      go false = lit< tt

  f32_or_fits : (i : ℕ) → T (fits binary32 (unwrap_or (option_f32_at n i) (of_bits binary32 0)))
  unfolding option_f32_at
  f32_or_fits i = go (flag_at n i)
    where
      go : (f : Bool) → T (fits binary32 (unwrap_or (cond f (Some (f32_at n (i + 1))) None) (of_bits binary32 0)))
      go true = f32_fits n (i + 1)
      go false = zero_fits

  position_fits : (i k : ℕ) → Within (position_cells (position_at 0 (position_at k (option_position_at n i))))
  unfolding option_position_at vec3_at
  position_fits i k = go (flag_at n i)
    where
      go : (f : Bool) → Within (position_cells (position_at 0 (position_at k (cond f (Some (record { t_ms = u32_at n (i + 1); pos = vec3_at n (i + 5); vel = vec3_at n (i + 17) })) None))))
      go true = (lit< tt, (f32_fits n (i + 5), (f32_fits n (i + 5 + 4), (f32_fits n (i + 5 + 8), (f32_fits n (i + 17), (f32_fits n (i + 17 + 4), (f32_fits n (i + 17 + 8), tt)))))))
      go false = let z = zero_fits in (lit< tt, (z, (z, (z, (z, (z, (z, tt)))))))

  gps_fits : (i k : ℕ) → Within (gps_cells (gps_at 0 (gps_at k (option_gps_at n i))))
  unfolding option_gps_at
  gps_fits i k = go (flag_at n i)
    where
      go : (f : Bool) → Within (gps_cells (gps_at 0 (gps_at k (cond f (Some (record { t_ms = u32_at n (i + 1); fix = fix_at n (i + 5); sats = option_u8_at n (i + 6); hdop = option_f32_at n (i + 8) })) None))))
      go true = (lit< tt, (fix_fits (fix_at n (i + 5)), (u8_fits (i + 6), (f32_or_fits (i + 8), tt))))
      go false = (lit< tt, (lit< tt, (lit< tt, (zero_fits, tt))))

  value_fits : (i k : ℕ) → Within (stamped_f32_cells (value_at 0 (value_at k (stamped_f32_at n i))))
  unfolding stamped_f32_at
  value_fits i k = go (flag_at n i)
    where
      go : (f : Bool) → Within (stamped_f32_cells (value_at 0 (value_at k (cond f (Some (record { t_ms = u32_at n (i + 1); value = f32_at n (i + 5) })) None))))
      go true = (lit< tt, (f32_fits n (i + 5), tt))
      go false = (lit< tt, (zero_fits, tt))

word_fits : (k : ℕ) (o : Option ℕ) → unwrap_or (instead 0 (instead k o)) 0 < 2 ^ 32
word_fits k None = lit< tt
word_fits k (Some m) = lit< tt

flag_fits : (k : ℕ) (o : Option (Stamped Bool)) → (unwrap_or (flag_with 0 (flag_with k o)) (record { t_ms = 0; value = false })).t_ms < 2 ^ 32
flag_fits k None = lit< tt
flag_fits k (Some r) = lit< tt

landed_fits : (k : ℕ) (o : Option (Stamped LandedState)) → (unwrap_or (landed_with 0 (landed_with k o)) (record { t_ms = 0; value = LandedState.Undefined })).t_ms < 2 ^ 32
landed_fits k None = lit< tt
landed_fits k (Some r) = lit< tt

others_fit : (n : List ℕ) (i : Stamps) → Bytes n → Within (telemetry_cells (telemetry_with zero_stamps (telemetry_with i (telemetry_at n))))
unfolding telemetry_at telemetry_with telemetry_cells battery_cells status_cells
others_fit n i b =
    let u = telemetry_at n in
    let x = telemetry_with zero_stamps (telemetry_with i u) in
    let v = value_fits n b 50 i.voltage in
    let p = value_fits n b 59 i.percent in
    let r = value_fits n b 68 i.remaining in (
      lit< tt,
      within_joined (position_cells x.position) (gps_cells x.gps ++ (battery_cells x.battery ++ status_cells x)) (position_fits n b 8 i.position)
          (within_joined (gps_cells x.gps) (battery_cells x.battery ++ status_cells x) (gps_fits n b 37 i.gps) (
            v.0,
            (
              v.1.0,
              (
                p.0,
                (
                  p.1.0,
                  (
                    r.0,
                    (
                      r.1.0,
                      (
                        word_fits i.heartbeat u.gcs_heartbeat_ms,
                        (
                          flag_fits i.armed u.armed,
                          (
                            landed_fits i.landed u.landed,
                            (
                              landed_number_lem (unwrap_or x.landed (record { t_ms = 0; value = LandedState.Undefined })).value,
                              (
                                flag_fits i.rc u.rc_ok,
                                (
                                  flag_fits i.ekf u.ekf_ok,
                                  tt,
                                ),
                              ),
                            ),
                          ),
                        ),
                      ),
                    ),
                  ),
                ),
              ),
            ),
          )),
    )

-- the stamps of telemetry at stamps of 64 bits
stamps_fit :
    (l : List ℕ) (u : Telemetry) → ((k : ℕ) → get_or l k 0 < 2 ^ 64) → (k : ℕ) → get_or (stamps_listed (stamps_of (telemetry_with (stamps_unlisted l) u))) k 0 < 2 ^ 64
unfolding stamps_listed stamps_unlisted stamps_of telemetry_with
stamps_fit l u h zero = h 0
stamps_fit l u h (suc zero) = sample_lt (get_or l 1 0) u.position (h 1)
stamps_fit l u h (suc (suc zero)) = gps_lt (get_or l 2 0) u.gps (h 2)
stamps_fit l u h (suc (suc (suc zero))) = value_lt (get_or l 3 0) u.battery.voltage_v (h 3)
stamps_fit l u h (suc (suc (suc (suc zero)))) = value_lt (get_or l 4 0) u.battery.percent (h 4)
stamps_fit l u h (suc (suc (suc (suc (suc zero))))) = value_lt (get_or l 5 0) u.battery.remaining_wh (h 5)
stamps_fit l u h (suc (suc (suc (suc (suc (suc zero)))))) = instant_lt (get_or l 6 0) u.gcs_heartbeat_ms (h 6)
stamps_fit l u h (suc (suc (suc (suc (suc (suc (suc zero))))))) = flag_lt (get_or l 7 0) u.armed (h 7)
stamps_fit l u h (suc (suc (suc (suc (suc (suc (suc (suc zero)))))))) = landed_lt (get_or l 8 0) u.landed (h 8)
stamps_fit l u h (suc (suc (suc (suc (suc (suc (suc (suc (suc zero))))))))) = flag_lt (get_or l 9 0) u.rc_ok (h 9)
stamps_fit l u h (suc (suc (suc (suc (suc (suc (suc (suc (suc (suc zero)))))))))) = flag_lt (get_or l 10 0) u.ekf_ok (h 10)
stamps_fit l u h (suc (suc (suc (suc (suc (suc (suc (suc (suc (suc (suc k))))))))))) = lit< tt

typed_at :
    (s : List ℕ) (u : Telemetry) → Bytes s → frame_fault 9 148 s ≡ 0 → read_telemetry (telemetry_on (replicate 11 0) s) ≡ Ok u →
    TypedTelemetry (telemetry_with (wide_stamps s) u)
unfolding wide_stamps telemetry_on
typed_at s u b h e =
    let none : List ℕ = replicate 11 0 in
    let n = telemetry_on none s in
    let f = whole 0 150 s (head_says 9 148 s h).1.1 in
    let sound : frame_fault 3 104 n ≡ 0 = subst (λ (l : List ℕ). frame_fault 3 104 (telemetry_on none l) ≡ 0) f (frame_on none s) in
    let a = within_range (telemetry_valid n) (telemetry_at n) u (sym (opened n sound) ∙ e) in
    record {
      stamps = stamps_fit (instants_at 8 telemetry_gaps (drop 4 s)) u (instants_lt telemetry_gaps s b);
      others =
          subst (λ (x : Telemetry). Within (telemetry_cells (telemetry_with zero_stamps (telemetry_with (wide_stamps s) x)))) a.1
          (others_fit n (wide_stamps s) (bytes_on 3 104 telemetry_gaps none s b));
    }

pub typed_again : (s : List ℕ) (t : Telemetry) → Bytes s → read_wide_telemetry s ≡ Ok t → TypedTelemetry t
typed_again s t b e = let a = wide_accepted s t e in subst TypedTelemetry a.at (typed_at s a.inner b a.head a.read)
