-- The small instances hold, by computing each. Assumes nothing.
use mathlib.Core.Path.{refl}
use lib.Ieee.{add, sub, mul, div, neg, lt, le, eq, is_nan, of_bits, of_int, round}
use Rattle.time.specs.Time.{wrapping_sub, age, fresh, hold_met}
use Rattle.float32.specs.Sqrt.{square_root}
use Rattle.float32.specs.Libm.{is_finite, fmax, fabs}
use Rattle.types.specs.ActiveSet.{set_request, higher_request, requested_action}
use Rattle.types.specs.Vec3.{alt_m, horizontal_dist_home}
use Rattle.corners.specs.Acceptance.{corner_fault, same_point, flat_turn, cross2, mixed_turns, area_term, polygon_area, polygon_tests}
use Rattle.geometry.specs.Distance.{side_length, edge_signed_distance_by, signed_distance, contains, nearest}
use Rattle.config.specs.Config.{bad_cell_count, bad_capacity, non_finite_param, non_positive_speed, negative_power, bad_threshold_order, outside_duration, duration_out_of_range, rtl_alt_outside_fence, check_config}
use Rattle.config.specs.Default.{default_config, default_fence}
use Rattle.energy.specs.Energy.{rtl_wh, land_wh, rtl_energy_at, rtl_energy}
use Rattle.validate.specs.Bounds.{validate_telemetry}
use Rattle.validate.specs.Glitch.{distance_between, within_jump, accept_sample, apply_glitch_filter}
use Rattle.timers.specs.Timer.{held_set}
use Rattle.triggers.specs.Families.{rc_link, energy}
use Rattle.triggers.specs.Update.{without_gcs_timer, update}
use Rattle.arbiter.specs.Arbiter.{without_recovery, apply_persistence, apply_feasibility, arbitrate}
use Rattle.disarm.specs.Disarm.{gate_open, evaluate}
use Rattle.clock.specs.Clock.{clock_fault, clock_step}
use Rattle.supervisor.specs.Step.{sense, disarmed, disarmed_decision, flown, step}
use Rattle.instances.specs.Small.{SmallInstances}

pub small_instances : SmallInstances
unfolding hold_met of_int distance_between within_jump accept_sample corner_fault same_point flat_turn cross2 mixed_turns area_term polygon_area polygon_tests side_length edge_signed_distance_by signed_distance contains nearest default_fence fabs held_set rc_link energy add sub mul div neg lt le eq is_nan of_bits round wrapping_sub age fresh square_root is_finite fmax alt_m horizontal_dist_home bad_cell_count bad_capacity non_finite_param non_positive_speed negative_power bad_threshold_order outside_duration duration_out_of_range rtl_alt_outside_fence check_config default_config rtl_wh land_wh rtl_energy_at rtl_energy set_request higher_request requested_action validate_telemetry apply_glitch_filter without_gcs_timer update without_recovery apply_persistence apply_feasibility arbitrate gate_open evaluate clock_fault clock_step sense disarmed disarmed_decision flown step
small_instances =
    record {
      disarm_by_fresh_false = refl;
      no_disarm_by_stale_false = refl;
      no_disarm_by_fresh_true = refl;
      no_disarm_by_stale_true = refl;
      no_disarm_by_none = refl;
      valid_by_both = refl;
      not_by_position_alone = refl;
      not_by_ekf_false = refl;
      not_by_ekf_stale = refl;
      not_by_ekf_alone = refl;
      not_by_position_stale = refl;
      open_on_ground = refl;
      shut_in_landing = refl;
      shut_in_takeoff = refl;
      shut_in_air = refl;
      shut_in_undefined = refl;
      shut_by_stale_ground = refl;
      shut_by_no_ground = refl;
      shut_by_disarmed = refl;
      shut_by_stale_armed = refl;
      shut_by_return = refl;
      fence_refusals = refl;
      once_round_refusal = refl;
      config_refusals = refl;
      config_order = refl;
      energy_away = refl;
      energy_at_home = refl;
      hold_without_position = refl;
      return_without_position = refl;
      nominal_without_position = refl;
      warn_without_position = refl;
      land_without_position = refl;
      hold_with_position = refl;
      return_with_position = refl;
      wanted_unlatched = refl;
      wanted_by_battery = refl;
      wanted_by_energy = refl;
      wanted_by_both = refl;
      second_fault_leaves = refl;
      third_fault_leaves = refl;
      disarm_leaves = refl;
      disarm_answers = refl;
      disarm_names_fault = refl;
      names_battery = refl;
      flat_before_convex = refl;
      inside_at_zero = refl;
      lower_side = refl;
      short_side = refl;
      heartbeat_ahead = refl;
      heartbeat_none = refl;
      rc_required = refl;
      rc_not_required = refl;
      energy_latch_stays = refl;
      energy_latch_asks = refl;
      gap_of_2000 = refl;
      gap_of_2001 = refl;
    }
