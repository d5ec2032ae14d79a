-- The defaults: the Rust's sixty-two numbers, and its default fence. Assumes nothing.
use Rattle.std.specs.Prelude.{ℕ, ◌≡◌, true, false, List, [], ◌∷◌, Float, Ok}
use Rattle.std.specs.Float.{binary32}
use Rattle.std.specs.Float.Ieee.{round, neg}
use Rattle.types.specs.declared.Point2.{Point2}
use Rattle.geometry.specs.declared.Geofence.{Geofence}
use Rattle.geometry.specs.Polygon.{held_polygon, polygon_new, geofence_new}
use Rattle.config.specs.declared.Config.{Config}

-- the binary32 number nearest to n / d
abbrev pub decimal : ℕ → ℕ → Float
decimal n d = round binary32 false n d

unfoldable pub default_config : Config
default_config =
    record {
      cell_count = 4;
      usable_capacity_wh = decimal 40 1;
      rc_required = true;
      pos_fresh_ms = 500;
      gps_fresh_ms = 1000;
      status_fresh_ms = 1000;
      battery_fresh_ms = 2000;
      recovery_hold_ms = 5000;
      gcs_warn_ms = 3000;
      gcs_hold_ms = 5000;
      gcs_rtl_ms = 15000;
      gcs_clear_ms = 1500;
      gcs_clear_hold_ms = 3000;
      rc_lost_set_ms = 1000;
      rc_lost_clear_ms = 3000;
      gps_degraded_set_ms = 2000;
      gps_degraded_clear_ms = 5000;
      gps_lost_set_ms = 1500;
      gps_lost_clear_ms = 5000;
      ekf_unhealthy_set_ms = 1000;
      ekf_unhealthy_clear_ms = 5000;
      fence_approach_m = decimal 10 1;
      fence_approach_clear_m = decimal 15 1;
      fence_breach_set_ms = 500;
      fence_breach_clear_m = decimal 5 1;
      fence_breach_clear_ms = 5000;
      alt_max_clear_m = decimal 5 1;
      alt_max_set_ms = 500;
      alt_max_clear_hold_ms = 3000;
      alt_min_home_radius_m = decimal 20 1;
      alt_min_set_ms = 1000;
      alt_min_clear_m = decimal 2 1;
      alt_min_clear_ms = 1000;
      stale_battery_clear_ms = 3000;
      battery_warn_pct = decimal 30 1;
      battery_warn_clear_pct = decimal 33 1;
      battery_warn_set_ms = 2000;
      battery_warn_clear_ms = 5000;
      battery_low_pct = decimal 20 1;
      battery_low_clear_pct = decimal 23 1;
      battery_low_set_ms = 2000;
      battery_low_clear_ms = 5000;
      battery_critical_pct = decimal 10 1;
      battery_critical_v_per_cell = decimal 33 10;
      battery_critical_set_ms = 3000;
      energy_marginal_wh = decimal 5 1;
      energy_marginal_clear_wh = decimal 7 1;
      energy_marginal_set_ms = 2000;
      energy_marginal_clear_ms = 5000;
      energy_infeasible_set_ms = 2000;
      invalid_input_clear_ms = 3000;
      disarm_hold_ms = 2000;
      v_cruise = decimal 10 1;
      p_cruise = decimal 350 1;
      k_wind = decimal 125 100;
      v_climb = decimal 2 1;
      p_climb = decimal 400 1;
      v_desc = decimal 15 10;
      p_desc = decimal 300 1;
      h_rtl = decimal 30 1;
      reserve_wh = decimal 8 1;
      v_max = decimal 25 1;
      keeps_raised = false;
    }

abbrev corner : Float → Float → Point2
corner n e = record { n = n; e = e }

-- "`default_fence` (4 corners in the order the Rust lists them, altitudes 5 and 120)"
abbrev pub default_corners : List Point2
default_corners = corner (neg (decimal 500 1)) (neg (decimal 500 1)) ∷ corner (neg (decimal 500 1)) (decimal 500 1) ∷ corner (decimal 500 1) (decimal 500 1) ∷ corner (decimal 500 1) (neg (decimal 500 1)) ∷ []

unfoldable pub default_fence : Geofence
default_fence = record { poly = held_polygon default_corners; max_alt_m = decimal 120 1; min_alt_m = decimal 5 1 }

-- the Rust's constructors accept it
pub record DefaultAccepted : Type 0 where
  pub corners : polygon_new false 4 default_corners ≡ Ok default_fence.poly
  pub altitudes : geofence_new default_fence.poly (decimal 5 1) (decimal 120 1) ≡ Ok default_fence
