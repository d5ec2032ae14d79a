-- The instances on single frames, computed. Assumes nothing.
use mathlib.Core.Path.{refl}
use lib.Ieee.{add, sub, mul, neg, lt, le, eq, of_bits, round}
use Rattle.float32.specs.Libm.{is_finite, fabs}
use Rattle.wire.specs.Fields.{u8_at, number_at, u16_at, u32_at, f32_at, flag_at, byte_below}
use Rattle.wire.specs.Frame.{whole_frame, check_frame}
use Rattle.options.specs.Enums.{action_at, reason_at}
use Rattle.options.specs.Options.{zeros, valid_option, option_u32_at}
use Rattle.options.specs.Position.{vec3_at, option_position_at}
use Rattle.corners.specs.Acceptance.{corner_fault, same_point, flat_turn, cross2, mixed_turns, area_term, polygon_area, polygon_tests}
use Rattle.geometry.specs.Polygon.{polygon_new, geofence_new}
use Rattle.frame_fence.specs.FenceFrame.{point_at, corners_at, corner_array, asks_once_round, check_fence, corners_sent, read_fence, fence_rules, fence_of, check_write}
use Rattle.frame_telemetry.specs.TelemetryFrame.{telemetry_tests, telemetry_valid, read_telemetry}
use Rattle.frame_decision.specs.Slots.{slot_valid, slots_valid}
use Rattle.frame_decision.specs.DecisionFrame.{decision_valid, read_decision}
use Rattle.frame_state.specs.StateFrame.{triggers_at, state_at, timers_valid, state_valid, raised_at, raised_read, raised_valid, read_state}
use Rattle.byte_instances.specs.Frames.{FrameInstances}

pub frame_instances : FrameInstances
unfolding add sub mul lt le eq neg of_bits round is_finite fabs u8_at number_at u16_at u32_at f32_at flag_at byte_below whole_frame check_frame action_at reason_at zeros valid_option option_u32_at vec3_at option_position_at corner_fault same_point flat_turn cross2 mixed_turns area_term polygon_area polygon_tests polygon_new geofence_new point_at corners_at corner_array asks_once_round check_fence corners_sent read_fence fence_rules fence_of check_write telemetry_tests telemetry_valid read_telemetry slot_valid slots_valid decision_valid read_decision triggers_at state_at timers_valid state_valid raised_at raised_read raised_valid read_state
frame_instances =
    record {
      length-of_kind_and_body = refl;
      short_by_its_own_length = refl;
      kind_before_length = refl;
      another_kind = refl;
      flag_of_an_option = refl;
      length-of_the_count = refl;
      seventeen_read = refl;
      corners_before_altitudes = refl;
      finite_before_envelope = refl;
      seventeen_written = refl;
      telemetry_read_lem = refl;
      absent_voltage = refl;
      length-before_flags = refl;
      decision_read = refl;
      position_of_two = refl;
      absent_action = refl;
      stage_of_3 = refl;
      stage_of_4 = refl;
      streak_of_2 = refl;
      streak_of_3 = refl;
      stored_read = refl;
      position_infinite = refl;
      velocity_infinite = refl;
      second_flag = refl;
    }
