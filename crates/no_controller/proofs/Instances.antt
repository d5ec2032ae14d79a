-- The instances hold by computation. Assumes nothing.
use Prim.Native.Nat.{ℕ, ◌≤◌}
use mathlib.Core.Bool.{Bool, true, false}
use mathlib.Core.List.{List, [], ◌∷◌}
use mathlib.Core.Logic.{inr}
use mathlib.Core.Path.{◌≡◌, refl, ap, sym, subst, ◌∙◌}
use borrow.Author.Tests.{eqb-false}
use lib.Dec.{eqb, lit≤}
use lib.ListN.{length, get_or}
use lib.Ieee.{add, sub, mul, div, neg, lt, le, of_bits, to_bits, of_int, round, is_nan}
use Rattle.types.specs.declared.Action.{Action}
use Rattle.float32.specs.Libm.{is_finite, fabs, is_negative, fmax}
use Rattle.float32.specs.Sqrt.{square_root}
use Rattle.types.specs.ActiveSet.{set_request, higher_request, requested_action}
use Rattle.types.specs.Vec3.{alt_m, horizontal_dist_home}
use Rattle.time.specs.Time.{wrapping_sub, age, fresh, hold_met}
use Rattle.corners.specs.Acceptance.{corner_fault, same_point, flat_turn, cross2, mixed_turns, area_term, polygon_area, polygon_tests}
use Rattle.geometry.specs.Polygon.{polygon_new, geofence_new}
use Rattle.geometry.specs.Distance.{side_length, edge_signed_distance_by, signed_distance, nearest, nearest_by, contains}
use Rattle.config.specs.Config.{bad_cell_count, bad_capacity, non_finite_param, non_positive_speed, negative_power, bad_threshold_order, outside_duration, duration_out_of_range, rtl_alt_outside_fence, check_config, validate_config}
use Rattle.config.specs.Default.{default_config}
use Rattle.energy.specs.Energy.{rtl_wh, land_wh, rtl_energy_at, rtl_energy}
use Rattle.validate.specs.Bounds.{within_position, within_velocity, validate_position_sample, validate_gps, validate_percent, validate_telemetry}
use Rattle.validate.specs.Fresh.{fresh_battery_percent, fresh_remaining_wh, fresh_voltage}
use Rattle.validate.specs.Glitch.{distance_between, within_jump, accept_sample, apply_glitch_filter}
use Rattle.triggers.specs.Families.{invalid_input, stage_request, gcs_stage, gcs_clearing, gcs_link, rc_link, gps, ekf, fence_approach, fence_breach, altitude_max, altitude_min, fence as fence_family, stale_battery, battery_warn, battery_low, battery_critical, battery, energy_marginal, energy}
use Rattle.timers.specs.Timer.{held_set, hold_pair, raised_by}
use Rattle.triggers.specs.Update.{fresh_triggers, raised_of, families, link_requests, fence_requests, battery_requests, requests, next_triggers, update}
use Rattle.arbiter.specs.Arbiter.{apply_persistence, apply_feasibility, arbitrate}
use Rattle.disarm.specs.Disarm.{gate_open, evaluate}
use Rattle.clock.specs.Clock.{sound_clock, clock_step}
use Rattle.supervisor.specs.Step.{fresh_supervisor, sense, decision_of, flown, step}
use Rattle.wire.specs.Fields.{u8_at, number_at, u16_at, u32_at, f32_at, flag_at, byte_below, le_bytes, le8, le16, le32, le_f32, le_flag}
use Rattle.wire.specs.Frame.{frame_head, frame_written, check_frame, check_room}
use Rattle.options.specs.Enums.{action_at, reason_at, le_action, le_reason}
use Rattle.options.specs.Options.{zeros, valid_option, option_u8_at, option_u32_at, le_option_u32, option_f32_at}
use Rattle.options.specs.Position.{vec3_at, le_vec3, option_position_at, le_option_position}
use Rattle.frame_config.specs.ConfigFrame.{keeps_raised, config_at, check_config_frame, read_config, freshness_cells, link_cells, fence_cells, battery_cells, energy_cells, flight_cells, config_cells, config_frame}
use Rattle.frame_fence.specs.FenceFrame.{point_at, corners_at, corner_array, asks_once_round, check_fence, corners_sent, read_fence, fence_rules, fence_of, corner_cells, fence_cells as sent_cells, fence_frame}
use Rattle.frame_state.specs.StateFrame.{raised_read, raised_valid, timer_at, triggers_at, arbiter_at, state_at, timers_valid, state_valid, read_state, le_timer, le_links, le_fence, le_battery, le_input, le_triggers, le_arbiter, state_frame}
use Rattle.frame_telemetry.specs.Readings.{fix_at, landed_at, option_gps_at, stamped_f32_at, stamped_bool_at, stamped_landed_at}
use Rattle.frame_telemetry.specs.TelemetryFrame.{telemetry_at, telemetry_tests, telemetry_valid, read_telemetry, battery_cells as charge_cells, status_cells, telemetry_cells, telemetry_frame}
use Rattle.frame_decision.specs.DecisionFrame.{decision_frame}
use Rattle.std.specs.Result.{is_ok}
use Rattle.flight.specs.Flight.{accept_flight, blank_flight, read_flight, step_flight}
use Rattle.calls.specs.Form.{base, state_size, form_of}
use Rattle.calls.specs.Entry.{step_any, fresh_call}
use Rattle.areas.specs.Clearance.{clearance}
use Rattle.frame_areas.specs.AreasFrame.{bodies, held_in, areas_fault, bodies_of, clearance_at}
use Rattle.run.specs.Run.{shown_action, state_bytes, UnderConfig}
use Rattle.run.specs.Instances.{config, fence, slice, in_flight}
use Rattle.run.proofs.Instances.{below, tested}
use Rattle.no_controller.specs.Claim.{EqualBut, SameCall, outputs}
use Rattle.no_controller.specs.Instances.{not_required, read, form, linked, lost, damaged, call, answer_to, rc_timer, OnePair, Alike, SameDeclined, NoControllerInstances}
use Rattle.no_controller.proofs.Claim.{no_controller_claim}

-- ---- the telemetry

record Slices : Type 0 where
  linked_bytes : below linked ≡ true
  lost_bytes : below lost ≡ true
  damaged_bytes : below damaged ≡ true
  lost_same : EqualBut 94 100 linked lost
  damaged_same : EqualBut 94 100 damaged linked

slices : Slices
unfolding linked lost damaged telemetry_frame telemetry_cells status_cells charge_cells frame_head le_bytes le8 le16 le32 le_f32 le_flag of_bits to_bits round neg in_flight
slices =
    record {
      linked_bytes = refl;
      lost_bytes = refl;
      damaged_bytes = refl;
      lost_same = record { lengths = refl; before = refl; behind = refl };
      damaged_same = record { lengths = refl; before = refl; behind = refl };
    }

-- ---- the calls

record Computed : Type 0 where
  accepted : is_ok (read_flight not_required fence) ≡ true
  off : (read not_required).rc_required ≡ false
  kind : (read not_required).keeps_raised ≡ false
  default_accepted : is_ok (read_flight config fence) ≡ true
  default_on : (read config).rc_required ≡ true
  default_kind : (read config).keeps_raised ≡ false
  linked_steps : (answer_to not_required linked).number ≡ 0
  lost_steps : (answer_to not_required lost).number ≡ 0
  damaged_declined : (answer_to not_required damaged).number ≡ 4
  linked_timer : rc_timer (answer_to not_required linked).state ≡ 1 ∷ 0 ∷ 0 ∷ 0 ∷ 0 ∷ []
  lost_timer : rc_timer (answer_to not_required lost).state ≡ 0 ∷ 0 ∷ 0 ∷ 0 ∷ 0 ∷ []
  linked_head : get_or (answer_to not_required linked).output 0 0 ≡ 93
  damaged_head : get_or (answer_to not_required damaged).output 0 0 ≡ 0
  default_linked : (answer_to config linked).number ≡ 0
  default_lost : (answer_to config lost).number ≡ 0
  shown_linked : shown_action (answer_to config linked).output ≡ Action.Nominal
  shown_lost : shown_action (answer_to config lost).output ≡ Action.ReturnToLaunch

computed : Computed
unfolding check_room linked lost damaged not_required add sub mul div neg lt le of_bits to_bits of_int round is_nan config fence slice in_flight state_bytes is_finite fabs is_negative fmax square_root set_request higher_request requested_action alt_m horizontal_dist_home wrapping_sub age fresh hold_met corner_fault same_point flat_turn cross2 mixed_turns area_term polygon_area polygon_tests polygon_new geofence_new side_length edge_signed_distance_by signed_distance nearest nearest_by contains bad_cell_count bad_capacity non_finite_param non_positive_speed negative_power bad_threshold_order outside_duration duration_out_of_range rtl_alt_outside_fence check_config validate_config default_config rtl_wh land_wh rtl_energy_at rtl_energy within_position within_velocity validate_position_sample validate_gps validate_percent validate_telemetry fresh_battery_percent fresh_remaining_wh fresh_voltage distance_between within_jump accept_sample apply_glitch_filter invalid_input stage_request gcs_stage gcs_clearing gcs_link rc_link gps ekf fence_approach fence_breach altitude_max altitude_min fence_family stale_battery battery_warn battery_low battery_critical battery energy_marginal energy held_set hold_pair raised_by raised_of fresh_triggers families link_requests fence_requests battery_requests requests next_triggers update apply_persistence apply_feasibility arbitrate gate_open evaluate sound_clock clock_step fresh_supervisor sense decision_of flown step u8_at number_at u16_at u32_at f32_at flag_at byte_below le_bytes le8 le16 le32 le_f32 le_flag frame_head check_frame frame_written action_at reason_at le_action le_reason zeros valid_option option_u8_at option_u32_at le_option_u32 option_f32_at vec3_at le_vec3 option_position_at le_option_position keeps_raised config_at check_config_frame read_config freshness_cells link_cells fence_cells battery_cells energy_cells flight_cells config_cells config_frame point_at corners_at corner_array asks_once_round check_fence corners_sent read_fence fence_rules fence_of corner_cells sent_cells fence_frame timer_at triggers_at arbiter_at state_at timers_valid state_valid raised_read raised_valid read_state le_timer le_links le_fence le_battery le_input le_triggers le_arbiter state_frame fix_at landed_at option_gps_at stamped_f32_at stamped_bool_at stamped_landed_at telemetry_at telemetry_tests telemetry_valid read_telemetry charge_cells status_cells telemetry_cells telemetry_frame decision_frame accept_flight blank_flight read_flight step_flight form_of step_any fresh_call bodies held_in areas_fault bodies_of clearance clearance_at
computed =
    record {
      accepted = refl;
      off = refl;
      kind = refl;
      default_accepted = refl;
      default_on = refl;
      default_kind = refl;
      linked_steps = refl;
      lost_steps = refl;
      damaged_declined = refl;
      linked_timer = refl;
      lost_timer = refl;
      linked_head = refl;
      damaged_head = refl;
      default_linked = refl;
      default_lost = refl;
      shown_linked = refl;
      shown_lost = refl;
    }

-- ---- the premises

room : (b : Bool) → b ≡ false → state_size (base b) ≤ length slice
unfolding slice
room b e = subst (λ (x : Bool). state_size (base x) ≤ length slice) (sym e) (lit≤ tt)

same : (frame a b : List ℕ) → EqualBut 94 100 a b → SameCall (form frame) (call frame a) (call frame b)
same frame a b h = record { with_side = refl; config = refl; fence = refl; telemetry = h; output = refl; areas = refl }

under : (frame a : List ℕ) → below a ≡ true → UnderConfig (form frame) slice (read frame) (call frame a ∷ [])
under frame a h = (tested a h, (inr refl, tt))

pair : (frame a b : List ℕ) → is_ok (read_flight frame fence) ≡ true → (read frame).keeps_raised ≡ false → below a ≡ true → below b ≡ true → EqualBut 94 100 a b → OnePair frame a b
pair frame a b ok kind ha hb h =
    record { accepted = ok; room = room (read frame).keeps_raised kind; first_under = under frame a ha; second_under = under frame b hb; same = same frame a b h }

-- both step
both_step : (frame a b : List ℕ) → EqualBut 94 100 a b → (answer_to frame a).number ≡ 0 → (answer_to frame b).number ≡ 0 → SameDeclined frame a b
both_step frame a b h p q = (same frame a b h, (ap (λ (n : ℕ). eqb n 0) (p ∙ sym q), tt))

-- the outputs of runs that are alike
alike_outputs : (frame a b : List ℕ) → Alike frame a b → (answer_to frame a).output ≡ (answer_to frame b).output
unfolding outputs
alike_outputs frame a b h = ap (λ (l : List (List ℕ)). get_or l 0 []) h.decisions

action_number : Action → ℕ
action_number Action.Nominal = 0
action_number Action.Warn = 1
action_number Action.Hold = 2
action_number Action.ReturnToLaunch = 3
action_number Action.Land = 4

pub no_controller_instances : NoControllerInstances
unfolding action_number
no_controller_instances =
    let c = computed in
    let s = slices in
    let quiet = pair not_required linked lost c.accepted c.kind s.linked_bytes s.lost_bytes s.lost_same in
    let declined = both_step not_required linked lost s.lost_same c.linked_steps c.lost_steps in
    record {
      quiet = quiet;
      quiet_off = c.off;
      quiet_declined = declined;
      quiet_alike = no_controller_claim (form not_required) (read not_required) refl c.off slice quiet.room (call not_required linked ∷ []) (call not_required lost ∷ []) quiet.first_under quiet.second_under declined;
      timer_runs = c.linked_timer;
      timer_rests = c.lost_timer;
      apart = pair not_required damaged linked c.accepted c.kind s.damaged_bytes s.linked_bytes s.damaged_same;
      apart_declined = c.damaged_declined;
      apart_steps = c.linked_steps;
      apart_differ = λ h. eqb-false 0 93 refl (sym c.damaged_head ∙ ap (λ (l : List ℕ). get_or l 0 0) (alike_outputs not_required damaged linked h) ∙ c.linked_head);
      required = pair config linked lost c.default_accepted c.default_kind s.linked_bytes s.lost_bytes s.lost_same;
      required_on = c.default_on;
      required_declined = both_step config linked lost s.lost_same c.default_linked c.default_lost;
      required_linked = c.shown_linked;
      required_lost = c.shown_lost;
      required_differ = λ h. eqb-false 0 3 refl (sym (ap action_number c.shown_linked) ∙ ap (λ (l : List ℕ). action_number (shown_action l)) (alike_outputs config linked lost h) ∙ ap action_number c.shown_lost);
    }
