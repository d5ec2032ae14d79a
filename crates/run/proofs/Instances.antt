-- The run on bytes, and the calls with several faults, computed. Assumes nothing.
use Rattle.std.specs.Prelude.{Ok}
use Prim.Native.Nat.{ℕ, zero, suc, ◌≤◌}
use mathlib.Core.Bool.{Bool, true, false, ◌&&◌, false≢true}
use mathlib.Core.List.{List, [], ◌∷◌}
use mathlib.Core.Logic.{inl, inr}
use mathlib.Core.Path.{◌≡◌, refl, sym, subst, ◌∙◌}
use borrow.Author.Tests.{ltb-true, eqb-false}
use lib.Dec.{ltb, lit<, lit≤}
use lib.Ieee.{add, sub, mul, div, neg, lt, le, of_bits, to_bits, of_int, round, is_nan}
use lib.ListN.{length}
use Rattle.types.specs.declared.Action.{Action}
use Rattle.types.specs.declared.Telemetry.{Telemetry}
use Rattle.float32.specs.Libm.{is_finite, fabs, is_negative, fmax}
use Rattle.float32.specs.Sqrt.{square_root}
use Rattle.types.specs.ActiveSet.{set_request, higher_request, requested_action}
use Rattle.types.specs.Vec3.{alt_m, horizontal_dist_home}
use Rattle.time.specs.Time.{wrapping_sub, age, fresh, hold_met}
use Rattle.corners.specs.Acceptance.{corner_fault, same_point, flat_turn, cross2, mixed_turns, area_term, polygon_area, polygon_tests}
use Rattle.geometry.specs.Polygon.{polygon_new, geofence_new}
use Rattle.geometry.specs.Distance.{side_length, edge_signed_distance_by, signed_distance, nearest, nearest_by, contains}
use Rattle.config.specs.Config.{bad_cell_count, bad_capacity, non_finite_param, non_positive_speed, negative_power, bad_threshold_order, outside_duration, duration_out_of_range, rtl_alt_outside_fence, check_config, validate_config}
use Rattle.config.specs.Default.{default_config}
use Rattle.energy.specs.Energy.{rtl_wh, land_wh, rtl_energy_at, rtl_energy}
use Rattle.validate.specs.Bounds.{within_position, within_velocity, validate_position_sample, validate_gps, validate_percent, validate_telemetry}
use Rattle.validate.specs.Fresh.{fresh_battery_percent, fresh_remaining_wh, fresh_voltage}
use Rattle.validate.specs.Glitch.{distance_between, within_jump, accept_sample, apply_glitch_filter}
use Rattle.triggers.specs.Families.{invalid_input, stage_request, gcs_stage, gcs_clearing, gcs_link, rc_link, gps, ekf, fence_approach, fence_breach, altitude_max, altitude_min, fence as fence_family, stale_battery, battery_warn, battery_low, battery_critical, battery, energy_marginal, energy}
use Rattle.timers.specs.Timer.{held_set, hold_pair, raised_by}
use Rattle.triggers.specs.Update.{fresh_triggers, raised_of, families, link_requests, fence_requests, battery_requests, requests, next_triggers, update}
use Rattle.arbiter.specs.Arbiter.{recover, apply_persistence, apply_feasibility, arbitrate}
use Rattle.disarm.specs.Disarm.{gate_open, hold_from, evaluate}
use Rattle.clock.specs.Clock.{sound_clock, clock_step}
use Rattle.supervisor.specs.Step.{fresh_supervisor, sense, decision_of, flown as step_flown, step}
use Rattle.wire.specs.Fields.{Bytes, u8_at, number_at, u16_at, u32_at, f32_at, flag_at, byte_below, le_bytes, le8, le16, le32, le_f32, le_flag}
use Rattle.wire.specs.Frame.{frame_head, frame_written, check_frame, check_room}
use Rattle.options.specs.Enums.{action_at, reason_at, le_action, le_reason}
use Rattle.options.specs.Options.{zeros, valid_option, option_u8_at, option_u32_at, le_option_u32, option_f32_at}
use Rattle.options.specs.Position.{vec3_at, le_vec3, option_position_at, le_option_position}
use Rattle.frame_config.specs.ConfigFrame.{keeps_raised, config_at, check_config_frame, read_config, freshness_cells, link_cells, fence_cells, battery_cells, energy_cells, flight_cells, config_cells, config_frame}
use Rattle.frame_fence.specs.FenceFrame.{point_at, corners_at, corner_array, asks_once_round, check_fence, corners_sent, read_fence, fence_rules, fence_of, corner_cells, fence_cells as sent_cells, fence_frame}
use Rattle.frame_state.specs.StateFrame.{raised_read, raised_valid, timer_at, triggers_at, arbiter_at, state_at, timers_valid, state_valid, read_state, le_timer, le_links, le_fence, le_battery, le_input, le_triggers, le_arbiter, state_frame}
use Rattle.frame_telemetry.specs.Readings.{fix_at, landed_at, option_gps_at, stamped_f32_at, stamped_bool_at, stamped_landed_at}
use Rattle.frame_telemetry.specs.TelemetryFrame.{telemetry_at, telemetry_tests, telemetry_valid, read_telemetry, battery_cells as charge_cells, status_cells, telemetry_cells, telemetry_frame}
use Rattle.frame_decision.specs.DecisionFrame.{decision_frame}
use Rattle.flight.specs.Flight.{accept_flight, blank_flight, read_flight}
use Rattle.frame_side.specs.SideFrame.{side_frame}
use Rattle.calls.specs.Form.{Form, base, state_size, form_of}
use Rattle.calls.specs.Entry.{step_any, fresh_call}
use Rattle.corners.specs.OnceRound.{north_sign, sign_changes}
use Rattle.areas.specs.Held.{area_fault}
use Rattle.areas.specs.Clearance.{clearance}
use Rattle.frame_areas.specs.AreaFrame.{corners_sent as area_corners, area_rules, distance_at}
use Rattle.frame_areas.specs.AreasFrame.{bodies, held_in, bodies_fit, counts_fit, areas_frame_fault, areas_fault, bodies_of, areas_frame, clearance_at}
use Rattle.run.specs.Run.{Call, state_bytes, Under, record_of_calls, SameFlight}
use Rattle.run.specs.Instances.{config, fence, slice, in_flight, blind, crane, step_on, step_with_side, step_with_crane, calls, flown, form, line, line_with_crane, RunInstance, RefusalOrder}
use Rattle.run.proofs.Run.{one_flight_claim}

-- ---- the telemetry is bytes

abbrev pub below : List ℕ → Bool
below [] = true
below (b ∷ bs) = ltb b 256 && below bs

both : (a b : Bool) → a && b ≡ true → (a ≡ true) × (b ≡ true)
both true true e = (refl, refl)
both true false e = absurd (false≢true e)
both false b e = absurd (false≢true e)

pub tested : (s : List ℕ) → below s ≡ true → Bytes s
unfolding Bytes u8_at
tested [] e k = lit< tt
tested (b ∷ bs) e zero = ltb-true b 256 (both (ltb b 256) (below bs) e).0
tested (b ∷ bs) e (suc k) = tested bs (both (ltb b 256) (below bs) e).1 k

record AllBelow : Type 0 where
  blind_6100 : below (telemetry_frame (blind 6100)) ≡ true
  flight_6060 : below (telemetry_frame (in_flight 6060 true)) ≡ true
  flight_6050 : below (telemetry_frame (in_flight 6050 true)) ≡ true
  flight_6000 : below (telemetry_frame (in_flight 6000 true)) ≡ true
  flight_5999 : below (telemetry_frame (in_flight 5999 true)) ≡ true
  flight_1000 : below (telemetry_frame (in_flight 1000 true)) ≡ true
  flight_0 : below (telemetry_frame (in_flight 0 false)) ≡ true

all_below : AllBelow
unfolding telemetry_frame telemetry_cells status_cells charge_cells frame_head le_bytes le8 le16 le32 le_f32 le_flag of_bits to_bits round neg in_flight blind
all_below = record { blind_6100 = refl; flight_6060 = refl; flight_6050 = refl; flight_6000 = refl; flight_5999 = refl; flight_1000 = refl; flight_0 = refl }

-- ---- the premises

-- a call without bytes is declined
declines : (state : List ℕ) → (step_any false [] [] state [] [] []).number ≡ 1
unfolding step_any read_flight read_config check_config_frame check_frame
declines state = refl

-- a call that steps, after others
stepping_side : (t : Telemetry) (earlier : List Call) → below (telemetry_frame t) ≡ true → Under form slice (SameFlight flown) earlier → Under form slice (SameFlight flown) (step_with_side t ∷ earlier)
stepping_side t earlier b u = (tested (telemetry_frame t) b, (inr (refl, refl), u))

stepping_crane : (t : Telemetry) (earlier : List Call) → below (telemetry_frame t) ≡ true → Under form slice (SameFlight flown) earlier → Under form slice (SameFlight flown) (step_with_crane t ∷ earlier)
stepping_crane t earlier b u = (tested (telemetry_frame t) b, (inr (refl, refl), u))

stepping : (t : Telemetry) (earlier : List Call) → below (telemetry_frame t) ≡ true → Under form slice (SameFlight flown) earlier → Under form slice (SameFlight flown) (step_on t ∷ earlier)
stepping t earlier b u = (tested (telemetry_frame t) b, (inr (refl, refl), u))

first_two : Under form slice (SameFlight flown) (step_on (in_flight 1000 true) ∷ step_on (in_flight 0 false) ∷ [])
first_two = stepping (in_flight 1000 true) (step_on (in_flight 0 false) ∷ []) all_below.flight_1000 (stepping (in_flight 0 false) [] all_below.flight_0 tt)

under : Under form slice (SameFlight flown) calls
under =
    stepping (blind 6100) _ all_below.blind_6100
    (stepping_side (in_flight 6060 true) _ all_below.flight_6060
    (stepping_crane (in_flight 6050 true) _ all_below.flight_6050
    (stepping (in_flight 6000 true) _ all_below.flight_6000
    (stepping_side (in_flight 5999 true) _ all_below.flight_5999
    (tested [] refl, (inl (λ z. eqb-false 1 0 refl (sym (declines _) ∙ z)), first_two))))))

-- ---- the bytes of configuration, fence, state, telemetry and output through every call

record Computed : Type 0 where
  accepted : read_flight config fence ≡ Ok flown
  kind : form ≡ base false
  record_is :
      record_of_calls form slice calls
      ≡ line (blind 6100) Action.Land
      ∷ line (in_flight 6060 true) Action.Warn
      ∷ line_with_crane (in_flight 6050 true) Action.Warn
      ∷ line (in_flight 6000 true) Action.Nominal
      ∷ line (in_flight 5999 true) Action.ReturnToLaunch
      ∷ line (in_flight 1000 true) Action.ReturnToLaunch
      ∷ line (in_flight 0 false) Action.ReturnToLaunch
      ∷ []
  order : RefusalOrder

computed : Computed
unfolding check_room add sub mul div neg lt le of_bits to_bits of_int round is_nan config fence slice in_flight blind state_bytes record_of_calls is_finite fabs is_negative fmax square_root set_request higher_request requested_action alt_m horizontal_dist_home wrapping_sub age fresh hold_met corner_fault same_point flat_turn cross2 mixed_turns area_term polygon_area polygon_tests polygon_new geofence_new side_length edge_signed_distance_by signed_distance nearest nearest_by contains bad_cell_count bad_capacity non_finite_param non_positive_speed negative_power bad_threshold_order outside_duration duration_out_of_range rtl_alt_outside_fence check_config validate_config default_config rtl_wh land_wh rtl_energy_at rtl_energy within_position within_velocity validate_position_sample validate_gps validate_percent validate_telemetry fresh_battery_percent fresh_remaining_wh fresh_voltage distance_between within_jump accept_sample apply_glitch_filter invalid_input stage_request gcs_stage gcs_clearing gcs_link rc_link gps ekf fence_approach fence_breach altitude_max altitude_min fence_family stale_battery battery_warn battery_low battery_critical battery energy_marginal energy held_set hold_pair raised_by raised_of fresh_triggers families link_requests fence_requests battery_requests requests next_triggers update recover apply_persistence apply_feasibility arbitrate gate_open hold_from evaluate sound_clock clock_step fresh_supervisor sense decision_of step_flown step u8_at number_at u16_at u32_at f32_at flag_at byte_below le_bytes le8 le16 le32 le_f32 le_flag frame_head check_frame frame_written action_at reason_at le_action le_reason zeros valid_option option_u8_at option_u32_at le_option_u32 option_f32_at vec3_at le_vec3 option_position_at le_option_position keeps_raised config_at check_config_frame read_config freshness_cells link_cells fence_cells battery_cells energy_cells flight_cells config_cells config_frame point_at corners_at corner_array asks_once_round check_fence corners_sent read_fence fence_rules fence_of corner_cells sent_cells fence_frame timer_at triggers_at arbiter_at state_at timers_valid state_valid raised_read raised_valid read_state le_timer le_links le_fence le_battery le_input le_triggers le_arbiter state_frame fix_at landed_at option_gps_at stamped_f32_at stamped_bool_at stamped_landed_at telemetry_at telemetry_tests telemetry_valid read_telemetry charge_cells status_cells telemetry_cells telemetry_frame decision_frame accept_flight blank_flight read_flight step_any form_of side_frame fresh_call sign_changes north_sign area_fault area_corners area_rules distance_at bodies held_in bodies_fit counts_fit areas_frame_fault areas_fault bodies_of areas_frame crane clearance clearance_at
computed =
    record {
      accepted = refl;
      kind = refl;
      record_is = refl;
      order =
          record {
            config_frame_lem = refl;
            fence_frame_lem = refl;
            fence_rules_lem = refl;
            config_rules = refl;
            state = refl;
            telemetry = refl;
            output = refl;
            none = refl;
          };
    }

room : state_size form ≤ length slice
unfolding slice
room = subst (λ (g : Form). state_size g ≤ length slice) (sym computed.kind) (lit≤ tt)

pub run_instance : RunInstance
run_instance =
    record {
      room = room;
      accepted = computed.accepted;
      under = under;
      record_is = computed.record_is;
      obeys = one_flight_claim config fence flown computed.accepted form refl slice room calls under;
    }

pub refusal_order : RefusalOrder
refusal_order = computed.order
