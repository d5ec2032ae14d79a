-- A merged Telemetry has its numbers within their types and its floats in binary32, as the two that were read have: so its frame reads back. Assumes nothing.
use Rattle.std.specs.Prelude.{Some, None, unwrap_or, Ok}
use Prim.Native.Nat.{ℕ, ◌+◌, ◌<◌, ◌^◌}
use mathlib.Core.Path.{◌≡◌}
use mathlib.Core.Bool.{Bool, true, false, cond}
use mathlib.Core.List.{List, ◌++◌}
use lib.Dec.{T, lit<}
use lib.Ieee.{Float, binary32, fits, of_bits}
use lib.Ieee.Bits.{of_bits-fits}
use Rattle.types.specs.declared.GpsFix.{GpsFix}
use Rattle.types.specs.declared.LandedState.{LandedState}
use Rattle.types.specs.declared.Telemetry.{Telemetry}
use Rattle.types.specs.Numbers.{fix_number, landed_number}
use Rattle.wire.specs.Fields.{Bytes, u8_at, flag_at, u32_at, f32_at}
use Rattle.wire.specs.Cell.{Within}
use Rattle.wire.proofs.Fields.{u32_lt}
use Rattle.options.specs.Options.{option_u8_at, option_u32_at, option_f32_at}
use Rattle.options.specs.Position.{vec3_at, option_position_at, position_cells}
use Rattle.frame_telemetry.specs.Readings.{fix_at, landed_at, option_gps_at, gps_cells, u32_cells, stamped_f32_at, stamped_f32_cells, stamped_bool_at, stamped_bool_cells, stamped_landed_at, stamped_landed_cells}
use Rattle.frame_telemetry.specs.TelemetryFrame.{read_telemetry, telemetry_at, battery_cells, status_cells, telemetry_cells, telemetry_frame}
use Rattle.frame_telemetry_trips.proofs.Trips.{within_joined, value_back}
use Rattle.merge.specs.Merge.{merge_battery, merge_telemetry}
use Rattle.merge.proofs.Laws.{chosen_holds}

-- each reading's cells
record Sized (t : Telemetry) : Type 0 where
  now : t.now_ms < 2 ^ 32
  position : Within (position_cells t.position)
  gps : Within (gps_cells t.gps)
  voltage : Within (stamped_f32_cells t.battery.voltage_v)
  percent : Within (stamped_f32_cells t.battery.percent)
  remaining : Within (stamped_f32_cells t.battery.remaining_wh)
  heartbeat : Within (u32_cells t.gcs_heartbeat_ms)
  armed : Within (stamped_bool_cells t.armed)
  landed : Within (stamped_landed_cells t.landed)
  rc_ok : Within (stamped_bool_cells t.rc_ok)
  ekf_ok : Within (stamped_bool_cells t.ekf_ok)

fix_within : (f : GpsFix) → fix_number f < 2 ^ 8
fix_within GpsFix.None = lit< tt
fix_within GpsFix.Fix2D = lit< tt
fix_within GpsFix.Fix3D = lit< tt

landed_within : (l : LandedState) → landed_number l < 2 ^ 8
landed_within LandedState.Undefined = lit< tt
landed_within LandedState.OnGround = lit< tt
landed_within LandedState.InAir = lit< tt
landed_within LandedState.Takeoff = lit< tt
landed_within LandedState.Landing = lit< tt

-- a reading that may be absent
present : {A : Type 0} (P : A → Type 0) (f : Bool) (some none : A) → P some → P none → P (cond f some none)
present P true some none g h = g
present P false some none g h = h

zero_fits : T (fits binary32 (unwrap_or None (of_bits binary32 0)))
zero_fits = of_bits-fits binary32 0

module _ (s : List ℕ) (b : Bytes s) where
  byte_lt : (i : ℕ) → u8_at s i < 2 ^ 8
  unfolding Bytes
  byte_lt i = b i

  f32_fits : (i : ℕ) → T (fits binary32 (f32_at s i))
  unfolding f32_at
  f32_fits i = of_bits-fits binary32 (u32_at s i)

  u8_at_lem : (i : ℕ) → unwrap_or (option_u8_at s i) 0 < 2 ^ 8
  unfolding option_u8_at
  u8_at_lem i = present (λ o. unwrap_or o 0 < 2 ^ 8) (flag_at s i) (Some (u8_at s (i + 1))) None (byte_lt (i + 1)) (lit< tt)

  f32_at_lem : (i : ℕ) → T (fits binary32 (unwrap_or (option_f32_at s i) (of_bits binary32 0)))
  unfolding option_f32_at
  f32_at_lem i = present (λ o. T (fits binary32 (unwrap_or o (of_bits binary32 0)))) (flag_at s i) (Some (f32_at s (i + 1))) None (f32_fits (i + 1)) zero_fits

  position_at : (i : ℕ) → Within (position_cells (option_position_at s i))
  unfolding option_position_at vec3_at
  position_at i =
      present (λ o. Within (position_cells o)) (flag_at s i)
      (Some (record { t_ms = u32_at s (i + 1); pos = vec3_at s (i + 5); vel = vec3_at s (i + 17) })) None
      (u32_lt s (i + 1) b, (f32_fits (i + 5), (f32_fits (i + 5 + 4), (f32_fits (i + 5 + 8), (f32_fits (i + 17), (f32_fits (i + 17 + 4), (f32_fits (i + 17 + 8), tt)))))))
      (lit< tt, (zero_fits, (zero_fits, (zero_fits, (zero_fits, (zero_fits, (zero_fits, tt)))))))

  gps_at_lem : (i : ℕ) → Within (gps_cells (option_gps_at s i))
  unfolding option_gps_at
  gps_at_lem i =
      present (λ o. Within (gps_cells o)) (flag_at s i)
      (Some (record { t_ms = u32_at s (i + 1); fix = fix_at s (i + 5); sats = option_u8_at s (i + 6); hdop = option_f32_at s (i + 8) })) None
      (u32_lt s (i + 1) b, (fix_within (fix_at s (i + 5)), (u8_at_lem (i + 6), (f32_at_lem (i + 8), tt))))
      (lit< tt, (lit< tt, (lit< tt, (zero_fits, tt))))

  stamped_f32_at_lem : (i : ℕ) → Within (stamped_f32_cells (stamped_f32_at s i))
  unfolding stamped_f32_at
  stamped_f32_at_lem i =
      present (λ o. Within (stamped_f32_cells o)) (flag_at s i) (Some (record { t_ms = u32_at s (i + 1); value = f32_at s (i + 5) })) None
      (u32_lt s (i + 1) b, (f32_fits (i + 5), tt))
      (lit< tt, (zero_fits, tt))

  heartbeat_at : (i : ℕ) → Within (u32_cells (option_u32_at s i))
  unfolding option_u32_at
  heartbeat_at i = present (λ o. Within (u32_cells o)) (flag_at s i) (Some (u32_at s (i + 1))) None (u32_lt s (i + 1) b, tt) (lit< tt, tt)

  stamped_bool_at_lem : (i : ℕ) → Within (stamped_bool_cells (stamped_bool_at s i))
  unfolding stamped_bool_at
  stamped_bool_at_lem i =
      present (λ o. Within (stamped_bool_cells o)) (flag_at s i) (Some (record { t_ms = u32_at s (i + 1); value = flag_at s (i + 5) })) None
      (u32_lt s (i + 1) b, tt)
      (lit< tt, tt)

  stamped_landed_at_lem : (i : ℕ) → Within (stamped_landed_cells (stamped_landed_at s i))
  unfolding stamped_landed_at
  stamped_landed_at_lem i =
      present (λ o. Within (stamped_landed_cells o)) (flag_at s i) (Some (record { t_ms = u32_at s (i + 1); value = landed_at s (i + 5) })) None
      (u32_lt s (i + 1) b, (landed_within (landed_at s (i + 5)), tt))
      (lit< tt, (lit< tt, tt))

  -- what is read from bytes
  sized_at : Sized (telemetry_at s)
  unfolding telemetry_at
  sized_at =
      record {
        now = u32_lt s 4 b;
        position = position_at 8;
        gps = gps_at_lem 37;
        voltage = stamped_f32_at_lem 50;
        percent = stamped_f32_at_lem 59;
        remaining = stamped_f32_at_lem 68;
        heartbeat = heartbeat_at 77;
        armed = stamped_bool_at_lem 82;
        landed = stamped_landed_at_lem 88;
        rc_ok = stamped_bool_at_lem 94;
        ekf_ok = stamped_bool_at_lem 100;
      }

-- what is merged of two such
sized_merged : (cap : Float) (a b : Telemetry) → Sized a → Sized b → Sized (merge_telemetry cap a b)
unfolding merge_telemetry merge_battery
sized_merged cap a b g h =
    record {
      now = g.now;
      position = chosen_holds (λ o. Within (position_cells o)) _ _ _ _ _ g.position h.position;
      gps = chosen_holds (λ o. Within (gps_cells o)) _ _ _ _ _ g.gps h.gps;
      voltage = chosen_holds (λ o. Within (stamped_f32_cells o)) _ _ _ _ _ g.voltage h.voltage;
      percent = chosen_holds (λ o. Within (stamped_f32_cells o)) _ _ _ _ _ g.percent h.percent;
      remaining = chosen_holds (λ o. Within (stamped_f32_cells o)) _ _ _ _ _ g.remaining h.remaining;
      heartbeat = chosen_holds (λ o. Within (u32_cells o)) _ _ _ _ _ g.heartbeat h.heartbeat;
      armed = chosen_holds (λ o. Within (stamped_bool_cells o)) _ _ _ _ _ g.armed h.armed;
      landed = chosen_holds (λ o. Within (stamped_landed_cells o)) _ _ _ _ _ g.landed h.landed;
      rc_ok = chosen_holds (λ o. Within (stamped_bool_cells o)) _ _ _ _ _ g.rc_ok h.rc_ok;
      ekf_ok = chosen_holds (λ o. Within (stamped_bool_cells o)) _ _ _ _ _ g.ekf_ok h.ekf_ok;
    }

sized_within : (t : Telemetry) → Sized t → Within (telemetry_cells t)
unfolding telemetry_cells battery_cells status_cells
sized_within t g =
    let v = g.voltage in
    let p = g.percent in
    let l = g.landed in
    let battery : Within (battery_cells t.battery) = (v.0, (v.1.0, (p.0, (p.1.0, g.remaining)))) in
    let status : Within (status_cells t) = (g.heartbeat.0, (g.armed.0, (l.0, (l.1.0, (g.rc_ok.0, g.ekf_ok))))) in (
      g.now,
      within_joined (position_cells t.position) (gps_cells t.gps ++ (battery_cells t.battery ++ status_cells t)) g.position
          (within_joined (gps_cells t.gps) (battery_cells t.battery ++ status_cells t) g.gps (within_joined (battery_cells t.battery) (status_cells t) battery status)),
    )

-- the merged frame of two Telemetries that were read is accepted, and reads as what was merged
pub accepted :
    (cap : Float) (s u : List ℕ) → Bytes s → Bytes u →
    read_telemetry (telemetry_frame (merge_telemetry cap (telemetry_at s) (telemetry_at u))) ≡ Ok (merge_telemetry cap (telemetry_at s) (telemetry_at u))
accepted cap s u b d =
    let m = merge_telemetry cap (telemetry_at s) (telemetry_at u) in
    value_back m (sized_within m (sized_merged cap (telemetry_at s) (telemetry_at u) (sized_at s b) (sized_at u d)))
