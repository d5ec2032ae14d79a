-- Both round trips of a Config frame. A NaN is one value here, so value, bytes, value says nothing of its bits; bytes, value, bytes gives the same bytes
-- but for those of a NaN. Assumes nothing.
use Prim.Native.Nat.{ℕ, ◌+◌, ◌<◌, ◌^◌}
use mathlib.Core.Path.{◌≡◌, ◌∙◌, ap, refl, subst}
use mathlib.Core.List.{List, ◌∷◌, ◌++◌}
use mathlib.Core.Bool.{Bool, true, false}
use native.Mathlib.Omega.{arith}
use lib.Dec.{lit<}
use lib.ListN.{length}
use borrow.Author.Tests.{eq-eqb, ne_eqb}
use Rattle.wire.specs.Fields.{Bytes, u8_at, number_at, u16_at, flag_at, u32_at, f32_at, byte_below, le8, le_flag, le_bytes, le16, le32, le_f32, bytes_from}
use Rattle.wire.specs.Cell.{bytes_of, Within, U16, sorts_of, NoNan, nan_rewritten, widths}
use Rattle.wire.specs.Frame.{check_frame, frame_number, frame_head}
use Rattle.wire.proofs.Fields.{u16_back, u32_back, flag_back, flag_valid, f32_back}
use Rattle.wire.proofs.Head.{number_zero, head_bytes, frame_sound}
use Rattle.wire.proofs.Read.{behind_head}
use Rattle.wire.proofs.Cells.{cells_bytes, nan_free}
use Rattle.wire.proofs.Whole.{whole}
use Rattle.config.specs.declared.Config.{Config}
use Rattle.std.specs.Prelude.{Ok}
use Rattle.frame_config.proofs.Accepted.{head_checked, tests, length-due, config_read}
use Rattle.frame_config.specs.ConfigFrame.{config_kind, keeps_raised, config_at, check_config_frame, read_config, config_frame, config_cells, freshness_cells, link_cells, fence_cells, battery_cells, energy_cells, flight_cells}

fields : (c : Config) → Within (config_cells c) → config_at (config_frame c) c.keeps_raised ≡ c
unfolding config_at config_frame config_cells freshness_cells link_cells fence_cells battery_cells energy_cells flight_cells frame_head u8_at number_at flag_at u32_at f32_at le8 le_flag le_bytes le16 le32 le_f32
fields c g =
    let g1 = g.1 in
    let g2 = g1.1 in
    let g3 = g2.1 in
    let g4 = g3.1 in
    let g5 = g4.1 in
    let g6 = g5.1 in
    let g7 = g6.1 in
    let g8 = g7.1 in
    let g9 = g8.1 in
    let g10 = g9.1 in
    let g11 = g10.1 in
    let g12 = g11.1 in
    let g13 = g12.1 in
    let g14 = g13.1 in
    let g15 = g14.1 in
    let g16 = g15.1 in
    let g17 = g16.1 in
    let g18 = g17.1 in
    let g19 = g18.1 in
    let g20 = g19.1 in
    let g21 = g20.1 in
    let g22 = g21.1 in
    let g23 = g22.1 in
    let g24 = g23.1 in
    let g25 = g24.1 in
    let g26 = g25.1 in
    let g27 = g26.1 in
    let g28 = g27.1 in
    let g29 = g28.1 in
    let g30 = g29.1 in
    let g31 = g30.1 in
    let g32 = g31.1 in
    let g33 = g32.1 in
    let g34 = g33.1 in
    let g35 = g34.1 in
    let g36 = g35.1 in
    let g37 = g36.1 in
    let g38 = g37.1 in
    let g39 = g38.1 in
    let g40 = g39.1 in
    let g41 = g40.1 in
    let g42 = g41.1 in
    let g43 = g42.1 in
    let g44 = g43.1 in
    let g45 = g44.1 in
    let g46 = g45.1 in
    let g47 = g46.1 in
    let g48 = g47.1 in
    let g49 = g48.1 in
    let g50 = g49.1 in
    let g51 = g50.1 in
    let g52 = g51.1 in
    let g53 = g52.1 in
    let g54 = g53.1 in
    let g55 = g54.1 in
    let g56 = g55.1 in
    let g57 = g56.1 in
    let g58 = g57.1 in
    let g59 = g58.1 in
    let g60 = g59.1 in
    λ i.
    record {
      cell_count = c.cell_count;
      usable_capacity_wh = f32_back c.usable_capacity_wh g1.0 i;
      rc_required = flag_back c.rc_required i;
      pos_fresh_ms = u32_back c.pos_fresh_ms g2.0 i;
      gps_fresh_ms = u32_back c.gps_fresh_ms g3.0 i;
      status_fresh_ms = u32_back c.status_fresh_ms g4.0 i;
      battery_fresh_ms = u32_back c.battery_fresh_ms g5.0 i;
      recovery_hold_ms = u32_back c.recovery_hold_ms g6.0 i;
      gcs_warn_ms = u32_back c.gcs_warn_ms g7.0 i;
      gcs_hold_ms = u32_back c.gcs_hold_ms g8.0 i;
      gcs_rtl_ms = u32_back c.gcs_rtl_ms g9.0 i;
      gcs_clear_ms = u32_back c.gcs_clear_ms g10.0 i;
      gcs_clear_hold_ms = u32_back c.gcs_clear_hold_ms g11.0 i;
      rc_lost_set_ms = u32_back c.rc_lost_set_ms g12.0 i;
      rc_lost_clear_ms = u32_back c.rc_lost_clear_ms g13.0 i;
      gps_degraded_set_ms = u32_back c.gps_degraded_set_ms g14.0 i;
      gps_degraded_clear_ms = u32_back c.gps_degraded_clear_ms g15.0 i;
      gps_lost_set_ms = u32_back c.gps_lost_set_ms g16.0 i;
      gps_lost_clear_ms = u32_back c.gps_lost_clear_ms g17.0 i;
      ekf_unhealthy_set_ms = u32_back c.ekf_unhealthy_set_ms g18.0 i;
      ekf_unhealthy_clear_ms = u32_back c.ekf_unhealthy_clear_ms g19.0 i;
      fence_approach_m = f32_back c.fence_approach_m g20.0 i;
      fence_approach_clear_m = f32_back c.fence_approach_clear_m g21.0 i;
      fence_breach_set_ms = u32_back c.fence_breach_set_ms g22.0 i;
      fence_breach_clear_m = f32_back c.fence_breach_clear_m g23.0 i;
      fence_breach_clear_ms = u32_back c.fence_breach_clear_ms g24.0 i;
      alt_max_clear_m = f32_back c.alt_max_clear_m g25.0 i;
      alt_max_set_ms = u32_back c.alt_max_set_ms g26.0 i;
      alt_max_clear_hold_ms = u32_back c.alt_max_clear_hold_ms g27.0 i;
      alt_min_home_radius_m = f32_back c.alt_min_home_radius_m g28.0 i;
      alt_min_set_ms = u32_back c.alt_min_set_ms g29.0 i;
      alt_min_clear_m = f32_back c.alt_min_clear_m g30.0 i;
      alt_min_clear_ms = u32_back c.alt_min_clear_ms g31.0 i;
      stale_battery_clear_ms = u32_back c.stale_battery_clear_ms g32.0 i;
      battery_warn_pct = f32_back c.battery_warn_pct g33.0 i;
      battery_warn_clear_pct = f32_back c.battery_warn_clear_pct g34.0 i;
      battery_warn_set_ms = u32_back c.battery_warn_set_ms g35.0 i;
      battery_warn_clear_ms = u32_back c.battery_warn_clear_ms g36.0 i;
      battery_low_pct = f32_back c.battery_low_pct g37.0 i;
      battery_low_clear_pct = f32_back c.battery_low_clear_pct g38.0 i;
      battery_low_set_ms = u32_back c.battery_low_set_ms g39.0 i;
      battery_low_clear_ms = u32_back c.battery_low_clear_ms g40.0 i;
      battery_critical_pct = f32_back c.battery_critical_pct g41.0 i;
      battery_critical_v_per_cell = f32_back c.battery_critical_v_per_cell g42.0 i;
      battery_critical_set_ms = u32_back c.battery_critical_set_ms g43.0 i;
      energy_marginal_wh = f32_back c.energy_marginal_wh g44.0 i;
      energy_marginal_clear_wh = f32_back c.energy_marginal_clear_wh g45.0 i;
      energy_marginal_set_ms = u32_back c.energy_marginal_set_ms g46.0 i;
      energy_marginal_clear_ms = u32_back c.energy_marginal_clear_ms g47.0 i;
      energy_infeasible_set_ms = u32_back c.energy_infeasible_set_ms g48.0 i;
      invalid_input_clear_ms = u32_back c.invalid_input_clear_ms g49.0 i;
      disarm_hold_ms = u32_back c.disarm_hold_ms g50.0 i;
      v_cruise = f32_back c.v_cruise g51.0 i;
      p_cruise = f32_back c.p_cruise g52.0 i;
      k_wind = f32_back c.k_wind g53.0 i;
      v_climb = f32_back c.v_climb g54.0 i;
      p_climb = f32_back c.p_climb g55.0 i;
      v_desc = f32_back c.v_desc g56.0 i;
      p_desc = f32_back c.p_desc g57.0 i;
      h_rtl = f32_back c.h_rtl g58.0 i;
      reserve_wh = f32_back c.reserve_wh g59.0 i;
      v_max = f32_back c.v_max g60.0 i;
      keeps_raised = c.keeps_raised;
    }

kind_fits : (keeps : Bool) → config_kind keeps < 2 ^ 16
kind_fits true = lit< tt
kind_fits false = lit< tt

kind_says : (keeps : Bool) (s : List ℕ) → u16_at s 2 ≡ config_kind keeps → keeps_raised s ≡ keeps
unfolding keeps_raised
kind_says true s k = eq-eqb (u16_at s 2) 11 k
kind_says false s k = ne_eqb (u16_at s 2) 11 (λ e. omega arith)

-- a frame says of which kind it is
kind : (c : Config) → keeps_raised (config_frame c) ≡ c.keeps_raised
unfolding config_frame frame_head u8_at number_at u16_at le16 le_bytes
kind c = kind_says c.keeps_raised (config_frame c) (u16_back (config_kind c.keeps_raised) (kind_fits c.keeps_raised))

body : (c : Config) → length (bytes_of (config_cells c)) + 2 ≡ 244
unfolding config_cells freshness_cells link_cells fence_cells battery_cells energy_cells flight_cells le8 le_flag le_bytes le32 le_f32
body c = refl

head : (c : Config) → head_checked (config_frame c) ≡ Ok tt
unfolding config_frame
head c =
    ap (λ (b : Bool). check_frame (config_kind b) 244 (config_frame c)) (kind c)
    ∙ number_zero _ (frame_sound (config_kind c.keeps_raised) 244 (bytes_of (config_cells c)) (kind_fits c.keeps_raised) (lit< tt) (omega arith) (body c))

valid : (c : Config) → byte_below (config_frame c) 9 2 ≡ true
unfolding byte_below config_frame config_cells freshness_cells link_cells fence_cells battery_cells energy_cells flight_cells frame_head u8_at le8 le_flag le_bytes le16 le32 le_f32
valid c = flag_valid c.rc_required

checked : (c : Config) → check_config_frame (config_frame c) ≡ Ok tt
unfolding check_config_frame
checked c = simp (head c, valid c)

-- value, bytes, value: for each Config whose numbers are within their types and whose floats are binary32's
pub value_back : (c : Config) → Within (config_cells c) → read_config (config_frame c) ≡ Ok c
value_back c g = config_read (config_frame c) (checked c) ∙ ap Ok (ap (config_at (config_frame c)) (kind c) ∙ fields c g)

-- what is read of either kind
abbrev config_of : List ℕ → Config
config_of s = config_at s (keeps_raised s)

-- the frame of what was read, cell by cell
cells : (s : List ℕ) → Bytes s → frame_number (head_checked s) ≡ 0 → byte_below s 9 2 ≡ true → config_frame (config_of s) ≡ nan_rewritten (U16 ∷ U16 ∷ sorts_of (config_cells (config_of s))) s 0
unfolding config_at config_frame config_cells freshness_cells link_cells fence_cells battery_cells energy_cells flight_cells
cells s b f h = λ j. head_bytes (config_kind (keeps_raised s)) 244 s b f j ++ cells_bytes (sorts_of (config_cells (config_of s))) s 4 b (h, tt) j

long : (c : Config) → widths (sorts_of (config_cells c)) ≡ 242
unfolding config_cells freshness_cells link_cells fence_cells battery_cells energy_cells flight_cells
long c = refl

module _ (s : List ℕ) (c : Config) (b : Bytes s) (e : read_config s ≡ Ok c) where
  accepted : (check_config_frame s ≡ Ok tt) × (config_of s ≡ c)
  unfolding read_config
  accepted = let a = behind_head (check_config_frame s) (Ok (config_of s)) c e in (a.0, let h = a.1 in cc)

  -- bytes, value, bytes: each NaN's bits become 7FC00000, the head is two fields of two bytes
  pub bytes_back : config_frame c ≡ nan_rewritten (U16 ∷ U16 ∷ sorts_of (config_cells c)) s 0
  bytes_back =
      let t = tests s accepted.0 in
      subst (λ (d : Config). config_frame d ≡ nan_rewritten (U16 ∷ U16 ∷ sorts_of (config_cells d)) s 0) accepted.1 (cells s b (ap frame_number t.0) t.1)

  -- the very bytes, where no float is a NaN
  pub bytes_same : NoNan (U16 ∷ U16 ∷ sorts_of (config_cells c)) s 0 → config_frame c ≡ s
  bytes_same n =
      bytes_back
      ∙ nan_free (U16 ∷ U16 ∷ sorts_of (config_cells c)) s 0 b n
      ∙ ap (λ (k : ℕ). bytes_from s 0 (2 + (2 + k))) (long c)
      ∙ whole 0 246 s (length-due s accepted.0)
