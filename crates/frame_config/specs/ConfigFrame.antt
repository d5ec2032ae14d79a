-- Kind 1, Config: "Body fields stand in the Rust's declared order". Document 02, L11: "A configuration of kind 11, body as kind 1 and taken wherever
-- kind 1 is, has its own rules". Assumes nothing.
use Rattle.std.specs.Prelude.{List, [], ◌∷◌, ◌++◌, Bool, cond, ℕ, eqb, Result, Ok, Err, ⊤}
use Rattle.std.specs.Result.{result_and}
use Rattle.wire.specs.Fields.{u8_at, u16_at, flag_at, u32_at, f32_at, byte_below}
use Rattle.wire.specs.Cell.{Cell, u8, flag, u32, f32, bytes_of}
use Rattle.wire.specs.declared.FrameError.{FrameError}
use Rattle.wire.specs.Frame.{check_frame, frame_head}
use Rattle.config.specs.declared.Config.{Config}

-- the kind of a configuration under which raised requests are kept, and of any other
abbrev pub config_kind : Bool → ℕ
config_kind keeps = cond keeps 11 1

-- whether they are: the kind is 11. Any kind but 1 and 11 is not the kind due
unfoldable pub keeps_raised : List ℕ → Bool
keeps_raised s = eqb (u16_at s 2) 11

-- the fields in their places, after the four bytes of the head
unfoldable pub config_at : List ℕ → Bool → Config
config_at s keeps =
    record {
      cell_count = u8_at s 4;
      usable_capacity_wh = f32_at s 5;
      rc_required = flag_at s 9;
      pos_fresh_ms = u32_at s 10;
      gps_fresh_ms = u32_at s 14;
      status_fresh_ms = u32_at s 18;
      battery_fresh_ms = u32_at s 22;
      recovery_hold_ms = u32_at s 26;
      gcs_warn_ms = u32_at s 30;
      gcs_hold_ms = u32_at s 34;
      gcs_rtl_ms = u32_at s 38;
      gcs_clear_ms = u32_at s 42;
      gcs_clear_hold_ms = u32_at s 46;
      rc_lost_set_ms = u32_at s 50;
      rc_lost_clear_ms = u32_at s 54;
      gps_degraded_set_ms = u32_at s 58;
      gps_degraded_clear_ms = u32_at s 62;
      gps_lost_set_ms = u32_at s 66;
      gps_lost_clear_ms = u32_at s 70;
      ekf_unhealthy_set_ms = u32_at s 74;
      ekf_unhealthy_clear_ms = u32_at s 78;
      fence_approach_m = f32_at s 82;
      fence_approach_clear_m = f32_at s 86;
      fence_breach_set_ms = u32_at s 90;
      fence_breach_clear_m = f32_at s 94;
      fence_breach_clear_ms = u32_at s 98;
      alt_max_clear_m = f32_at s 102;
      alt_max_set_ms = u32_at s 106;
      alt_max_clear_hold_ms = u32_at s 110;
      alt_min_home_radius_m = f32_at s 114;
      alt_min_set_ms = u32_at s 118;
      alt_min_clear_m = f32_at s 122;
      alt_min_clear_ms = u32_at s 126;
      stale_battery_clear_ms = u32_at s 130;
      battery_warn_pct = f32_at s 134;
      battery_warn_clear_pct = f32_at s 138;
      battery_warn_set_ms = u32_at s 142;
      battery_warn_clear_ms = u32_at s 146;
      battery_low_pct = f32_at s 150;
      battery_low_clear_pct = f32_at s 154;
      battery_low_set_ms = u32_at s 158;
      battery_low_clear_ms = u32_at s 162;
      battery_critical_pct = f32_at s 166;
      battery_critical_v_per_cell = f32_at s 170;
      battery_critical_set_ms = u32_at s 174;
      energy_marginal_wh = f32_at s 178;
      energy_marginal_clear_wh = f32_at s 182;
      energy_marginal_set_ms = u32_at s 186;
      energy_marginal_clear_ms = u32_at s 190;
      energy_infeasible_set_ms = u32_at s 194;
      invalid_input_clear_ms = u32_at s 198;
      disarm_hold_ms = u32_at s 202;
      v_cruise = f32_at s 206;
      p_cruise = f32_at s 210;
      k_wind = f32_at s 214;
      v_climb = f32_at s 218;
      p_climb = f32_at s 222;
      v_desc = f32_at s 226;
      p_desc = f32_at s 230;
      h_rtl = f32_at s 234;
      reserve_wh = f32_at s 238;
      v_max = f32_at s 242;
      keeps_raised = keeps;
    }

-- a frame is accepted by its head, and its one flag is 0 or 1
unfoldable pub check_config_frame : List ℕ → Result ⊤ FrameError
check_config_frame s =
    result_and (check_frame (config_kind (keeps_raised s)) 244 s)
    (cond (byte_below s 9 2) (Ok tt) (Err FrameError.OutOfRange))

-- the frame read
unfoldable pub read_config : List ℕ → Result Config FrameError
read_config s = result_and (check_config_frame s) (Ok (config_at s (keeps_raised s)))

-- the fields as cells, in six parts
unfoldable pub freshness_cells : Config → List Cell
freshness_cells c =
    u8 c.cell_count ∷
    f32 c.usable_capacity_wh ∷
    flag c.rc_required ∷
    u32 c.pos_fresh_ms ∷
    u32 c.gps_fresh_ms ∷
    u32 c.status_fresh_ms ∷
    u32 c.battery_fresh_ms ∷
    u32 c.recovery_hold_ms ∷
    []

unfoldable pub link_cells : Config → List Cell
link_cells c =
    u32 c.gcs_warn_ms ∷
    u32 c.gcs_hold_ms ∷
    u32 c.gcs_rtl_ms ∷
    u32 c.gcs_clear_ms ∷
    u32 c.gcs_clear_hold_ms ∷
    u32 c.rc_lost_set_ms ∷
    u32 c.rc_lost_clear_ms ∷
    u32 c.gps_degraded_set_ms ∷
    u32 c.gps_degraded_clear_ms ∷
    u32 c.gps_lost_set_ms ∷
    u32 c.gps_lost_clear_ms ∷
    u32 c.ekf_unhealthy_set_ms ∷
    u32 c.ekf_unhealthy_clear_ms ∷
    []

unfoldable pub fence_cells : Config → List Cell
fence_cells c =
    f32 c.fence_approach_m ∷
    f32 c.fence_approach_clear_m ∷
    u32 c.fence_breach_set_ms ∷
    f32 c.fence_breach_clear_m ∷
    u32 c.fence_breach_clear_ms ∷
    f32 c.alt_max_clear_m ∷
    u32 c.alt_max_set_ms ∷
    u32 c.alt_max_clear_hold_ms ∷
    f32 c.alt_min_home_radius_m ∷
    u32 c.alt_min_set_ms ∷
    f32 c.alt_min_clear_m ∷
    u32 c.alt_min_clear_ms ∷
    []

unfoldable pub battery_cells : Config → List Cell
battery_cells c =
    u32 c.stale_battery_clear_ms ∷
    f32 c.battery_warn_pct ∷
    f32 c.battery_warn_clear_pct ∷
    u32 c.battery_warn_set_ms ∷
    u32 c.battery_warn_clear_ms ∷
    f32 c.battery_low_pct ∷
    f32 c.battery_low_clear_pct ∷
    u32 c.battery_low_set_ms ∷
    u32 c.battery_low_clear_ms ∷
    f32 c.battery_critical_pct ∷
    f32 c.battery_critical_v_per_cell ∷
    u32 c.battery_critical_set_ms ∷
    []

unfoldable pub energy_cells : Config → List Cell
energy_cells c =
    f32 c.energy_marginal_wh ∷
    f32 c.energy_marginal_clear_wh ∷
    u32 c.energy_marginal_set_ms ∷
    u32 c.energy_marginal_clear_ms ∷
    u32 c.energy_infeasible_set_ms ∷
    u32 c.invalid_input_clear_ms ∷
    u32 c.disarm_hold_ms ∷
    []

unfoldable pub flight_cells : Config → List Cell
flight_cells c =
    f32 c.v_cruise ∷
    f32 c.p_cruise ∷
    f32 c.k_wind ∷
    f32 c.v_climb ∷
    f32 c.p_climb ∷
    f32 c.v_desc ∷
    f32 c.p_desc ∷
    f32 c.h_rtl ∷
    f32 c.reserve_wh ∷
    f32 c.v_max ∷
    []

unfoldable pub config_cells : Config → List Cell
config_cells c = freshness_cells c ++ (link_cells c ++ (fence_cells c ++ (battery_cells c ++ (energy_cells c ++ flight_cells c))))

-- the whole frame: 244 bytes of kind and body
unfoldable pub config_frame : Config → List ℕ
config_frame c = frame_head (config_kind c.keeps_raised) 244 ++ bytes_of (config_cells c)
