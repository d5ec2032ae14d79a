-- Both round trips of a Telemetry frame. A NaN is one value here, so value, bytes, value says nothing of its bits; bytes, value, bytes gives the same bytes
-- but for those of a NaN. Assumes nothing.
use Rattle.std.specs.Prelude.{unwrap_or, Ok}
use Prim.Native.Nat.{ℕ, ◌+◌}
use mathlib.Core.Path.{◌≡◌, ◌∙◌, ap, refl, subst}
use mathlib.Core.List.{List, [], ◌∷◌, ◌++◌}
use mathlib.Core.Bool.{true, false, ◌&&◌}
use Rattle.types.specs.declared.LandedState.{LandedState}
use Rattle.types.specs.declared.Telemetry.{Telemetry}
use Rattle.wire.specs.Fields.{Bytes, u8_at, number_at, u16_at, flag_at, u32_at, f32_at, byte_below, le8, le_flag, le_bytes, le16, le32, le_f32, bytes_from}
use Rattle.wire.specs.Cell.{Cell, u8, flag, u16, u32, f32, Within, U16, sorts_of, NoNan, nan_rewritten, widths}
use Rattle.wire.specs.Frame.{frame_number, frame_fault, frame_head, check_frame}
use Rattle.wire.proofs.Fields.{u32_back, flag_valid, u32_bytes}
use Rattle.wire.proofs.Head.{head_says, head_bytes}
use Rattle.wire.proofs.Read.{accepted}
use Rattle.wire.proofs.Cells.{nan_free}
use Rattle.wire.proofs.Whole.{whole, each}
use Rattle.options.specs.Options.{zeros, valid_option, option_u8_at, option_u32_at, option_f32_at, le_option_u8, le_option_u32, le_option_f32}
use Rattle.options.specs.Position.{vec3_at, le_vec3, option_position_at, le_option_position, position_cells}
use Rattle.options.proofs.Options.{option_u32_back, option_position_back, option_u8_valid, option_u32_valid, option_f32_valid, option_position_valid, option_u32_bytes, option_position_bytes}
use Rattle.frame_telemetry.specs.Readings.{fix_at, landed_at, option_gps_at, zero_gps, gps_cells, stamped_f32_at, stamped_bool_at, stamped_landed_at}
use Rattle.frame_telemetry.specs.TelemetryFrame.{telemetry_at, telemetry_tests, telemetry_valid, read_telemetry, battery_cells, status_cells, telemetry_cells, telemetry_frame}
use Rattle.frame_telemetry_trips.proofs.Readings.{gps_back, stamped_f32_back, stamped_bool_back, stamped_landed_back, fix_valid, landed_valid_lem, gps_valid_lem, stamped_f32_valid, stamped_bool_valid_lem, stamped_landed_valid, gps_bytes, stamped_f32_bytes, stamped_bool_bytes, stamped_landed_bytes}

within_parts : (xs ys : List Cell) → Within (xs ++ ys) → Within xs × Within ys
within_parts [] ys h = (tt, h)
within_parts (u8 n ∷ xs) ys h = let r = within_parts xs ys h.1 in ((h.0, r.0), r.1)
within_parts (flag b ∷ xs) ys h = within_parts xs ys h
within_parts (u16 n ∷ xs) ys h = let r = within_parts xs ys h.1 in ((h.0, r.0), r.1)
within_parts (u32 n ∷ xs) ys h = let r = within_parts xs ys h.1 in ((h.0, r.0), r.1)
within_parts (f32 x ∷ xs) ys h = let r = within_parts xs ys h.1 in ((h.0, r.0), r.1)

pub within_joined : (xs ys : List Cell) → Within xs → Within ys → Within (xs ++ ys)
within_joined [] ys g h = h
within_joined (u8 n ∷ xs) ys g h = (g.0, within_joined xs ys g.1 h)
within_joined (flag b ∷ xs) ys g h = within_joined xs ys g h
within_joined (u16 n ∷ xs) ys g h = (g.0, within_joined xs ys g.1 h)
within_joined (u32 n ∷ xs) ys g h = (g.0, within_joined xs ys g.1 h)
within_joined (f32 x ∷ xs) ys g h = (g.0, within_joined xs ys g.1 h)

fields : (t : Telemetry) → Within (telemetry_cells t) → telemetry_at (telemetry_frame t) ≡ t
unfolding telemetry_at telemetry_frame telemetry_cells battery_cells status_cells option_position_at vec3_at le_option_position le_vec3 option_gps_at fix_at landed_at option_u8_at option_u32_at option_f32_at le_option_u8 le_option_u32 le_option_f32 stamped_f32_at stamped_bool_at stamped_landed_at frame_head u8_at number_at flag_at u32_at f32_at le8 le_flag le_bytes le16 le32 le_f32
fields t g =
    let p = within_parts (position_cells t.position) (gps_cells t.gps ++ (battery_cells t.battery ++ status_cells t)) g.1 in
    let q = within_parts (gps_cells t.gps) (battery_cells t.battery ++ status_cells t) p.1 in
    let b = q.1 in
    let b2 = b.1.1 in
    let b3 = b2.1.1 in
    let r = b3.1.1 in
    λ j.
    record {
      now_ms = u32_back t.now_ms g.0 j;
      position = option_position_back t.position p.0 j;
      gps = gps_back t.gps q.0 j;
      battery =
          record {
            voltage_v = stamped_f32_back t.battery.voltage_v (b.0, (b.1.0, tt)) j;
            percent = stamped_f32_back t.battery.percent (b2.0, (b2.1.0, tt)) j;
            remaining_wh = stamped_f32_back t.battery.remaining_wh (b3.0, (b3.1.0, tt)) j;
          };
      gcs_heartbeat_ms = option_u32_back t.gcs_heartbeat_ms r.0 j;
      armed = stamped_bool_back t.armed (r.1.0, tt) j;
      landed = stamped_landed_back t.landed (r.1.1.0, (r.1.1.1.0, tt)) j;
      rc_ok = stamped_bool_back t.rc_ok (r.1.1.1.1.0, tt) j;
      ekf_ok = stamped_bool_back t.ekf_ok (r.1.1.1.1.1.0, tt) j;
    }

head : (t : Telemetry) → check_frame 3 104 (telemetry_frame t) ≡ Ok tt
unfolding check_frame telemetry_frame telemetry_cells battery_cells status_cells frame_head u8_at number_at u16_at le8 le_flag le_bytes le16 le32 le_f32
head t = refl

valid : (t : Telemetry) → telemetry_valid (telemetry_frame t) ≡ true
unfolding telemetry_valid telemetry_tests telemetry_frame telemetry_cells battery_cells status_cells valid_option zeros byte_below le_option_position le_vec3 le_option_u8 le_option_u32 le_option_f32 frame_head u8_at le8 le_flag le_bytes le16 le32 le_f32
valid t =
    let g = unwrap_or t.gps zero_gps in
    let armed = unwrap_or t.armed (record { t_ms = 0; value = false }) in
    let landed = unwrap_or t.landed (record { t_ms = 0; value = LandedState.Undefined }) in
    let rc_ok = unwrap_or t.rc_ok (record { t_ms = 0; value = false }) in
    let ekf_ok = unwrap_or t.ekf_ok (record { t_ms = 0; value = false }) in
    λ j.
    ((((((((((((((((option_position_valid t.position j && gps_valid_lem t.gps j) && fix_valid g.fix j) && option_u8_valid g.sats j) && option_f32_valid g.hdop j)
    && stamped_f32_valid t.battery.voltage_v j) && stamped_f32_valid t.battery.percent j) && stamped_f32_valid t.battery.remaining_wh j)
    && option_u32_valid t.gcs_heartbeat_ms j)
    && stamped_bool_valid_lem t.armed j) && flag_valid armed.value j) && stamped_landed_valid t.landed j) && landed_valid_lem landed.value j)
    && stamped_bool_valid_lem t.rc_ok j) && flag_valid rc_ok.value j) && stamped_bool_valid_lem t.ekf_ok j) && flag_valid ekf_ok.value j)

-- value, bytes, value: for each Telemetry whose numbers are within their types and whose floats are binary32's
pub value_back : (t : Telemetry) → Within (telemetry_cells t) → read_telemetry (telemetry_frame t) ≡ Ok t
unfolding read_telemetry
value_back t g = simp (head t, valid t, fields t g)

-- the frame of what was read, reading by reading
readings : (s : List ℕ) → Bytes s → frame_fault 3 104 s ≡ 0 → telemetry_valid s ≡ true → telemetry_frame (telemetry_at s) ≡ nan_rewritten (U16 ∷ U16 ∷ sorts_of (telemetry_cells (telemetry_at s))) s 0
unfolding telemetry_valid telemetry_tests telemetry_at telemetry_frame telemetry_cells battery_cells status_cells le_option_position vec3_at le_vec3 le_option_u32 u8_at le8 le_flag le_bytes le32 le_f32
readings s b f h =
    let e = each (valid_option s 8 28) (telemetry_tests s) h in
    let g = e.1 in
    let g4 = g.1.1.1.1 in
    let g8 = g4.1.1.1.1 in
    let g12 = g8.1.1.1.1 in
    λ j.
    head_bytes 3 104 s b f j
    ++ (u32_bytes s 4 b j
    ++ ((option_position_bytes s 8 e.0 ∙ (λ k. u8_at s 8 ∷ u32_bytes s 9 b k ++ (le_vec3 (vec3_at s 13) ++ le_vec3 (vec3_at s 25)))) j
    ++ (gps_bytes s 37 b g.0 g.1.0 g.1.1.0 g.1.1.1.0 j
    ++ (stamped_f32_bytes s 50 b g4.0 j
    ++ (stamped_f32_bytes s 59 b g4.1.0 j
    ++ (stamped_f32_bytes s 68 b g4.1.1.0 j
    ++ (option_u32_bytes s 77 b g4.1.1.1.0 j
    ++ (stamped_bool_bytes s 82 b g8.0 g8.1.0 j
    ++ (stamped_landed_bytes s 88 b g8.1.1.0 g8.1.1.1.0 j
    ++ (stamped_bool_bytes s 94 b g12.0 g12.1.0 j
    ++ stamped_bool_bytes s 100 b g12.1.1.0 g12.1.1.1.0 j))))))))))

long : (t : Telemetry) → widths (sorts_of (telemetry_cells t)) ≡ 102
unfolding telemetry_cells battery_cells status_cells
long t = refl

module _ (s : List ℕ) (t : Telemetry) (b : Bytes s) (e : read_telemetry s ≡ Ok t) where
  opened : (check_frame 3 104 s ≡ Ok tt) × ((telemetry_valid s ≡ true) × (telemetry_at s ≡ t))
  unfolding read_telemetry
  opened = accepted (check_frame 3 104 s) (telemetry_valid s) (telemetry_at s) t e

  sound : frame_fault 3 104 s ≡ 0
  sound = ap frame_number opened.0

  -- bytes, value, bytes: each NaN's bits become 7FC00000, the head is two fields of two bytes
  pub bytes_back : telemetry_frame t ≡ nan_rewritten (U16 ∷ U16 ∷ sorts_of (telemetry_cells t)) s 0
  bytes_back =
      subst (λ (u : Telemetry). telemetry_frame u ≡ nan_rewritten (U16 ∷ U16 ∷ sorts_of (telemetry_cells u)) s 0) opened.1.1
      (readings s b sound opened.1.0)

  -- the very bytes, where no float is a NaN
  pub bytes_same : NoNan (U16 ∷ U16 ∷ sorts_of (telemetry_cells t)) s 0 → telemetry_frame t ≡ s
  bytes_same n =
      bytes_back
      ∙ nan_free (U16 ∷ U16 ∷ sorts_of (telemetry_cells t)) s 0 b n
      ∙ ap (λ (k : ℕ). bytes_from s 0 (2 + (2 + k))) (long t)
      ∙ whole 0 106 s (head_says 3 104 s sound).1.1
