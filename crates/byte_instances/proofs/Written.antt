-- The instances of what `decide` writes, computed. Assumes nothing.
use mathlib.Core.Path.{refl}
use lib.Ieee.{add, sub, mul, neg, lt, le, eq, of_bits, round}
use Rattle.float32.specs.Libm.{is_finite, fabs}
use Rattle.wire.specs.Fields.{u8_at, number_at, u16_at, u32_at, f32_at, le_bytes, le16}
use Rattle.wire.specs.Frame.{frame_head, whole_frame, check_frame}
use Rattle.corners.specs.Acceptance.{corner_fault, same_point, flat_turn, cross2, mixed_turns, area_term, polygon_area, polygon_tests}
use Rattle.geometry.specs.Polygon.{polygon_new, geofence_new}
use Rattle.frame_config.specs.ConfigFrame.{keeps_raised, check_config_frame, read_config}
use Rattle.frame_fence.specs.FenceFrame.{point_at, corners_at, corner_array, asks_once_round, check_fence, corners_sent, read_fence, fence_rules, fence_of}
use Rattle.frame_areas.specs.AreasFrame.{bodies, held_in, bodies_fit, counts_fit, areas_frame_fault, areas_fault}
use Rattle.frame_telemetry.specs.TelemetryFrame.{read_telemetry}
use Rattle.frame_refusal.specs.RefusalFrame.{refusal_frame}
use Rattle.flight.specs.Flight.{accept_flight}
use Rattle.stream.specs.Stream.{refusal, begin, answer_config, answer_fence, after_areas, answer_frame, next_frame, end_bytes}
use Rattle.decided.specs.Decided.{begun, answer, front_frame, written_in, written_from, decided}
use Rattle.byte_instances.specs.Written.{WrittenInstances}

pub written_instances : WrittenInstances
unfolding add sub mul lt le eq neg of_bits round is_finite fabs u8_at number_at u16_at u32_at f32_at le_bytes le16 frame_head whole_frame check_frame corner_fault same_point flat_turn cross2 mixed_turns area_term polygon_area polygon_tests polygon_new geofence_new keeps_raised check_config_frame read_config point_at corners_at corner_array asks_once_round check_fence corners_sent read_fence fence_rules fence_of bodies held_in bodies_fit counts_fit areas_frame_fault areas_fault read_telemetry refusal_frame accept_flight refusal begin answer_config answer_fence after_areas answer_frame next_frame end_bytes begun answer front_frame written_in written_from decided
written_instances =
    record {
      at_a_boundary = refl;
      inside_a_frame = refl;
      first_refusal = refl;
      fence_refused = λ cfg. refl;
      room_of_94 = refl;
      room_of_95 = refl;
      first_areas = λ f s held. refl;
      second_areas = λ f s held. refl;
      refused_areas = λ f s held. refl;
    }
