-- The star and its neighbours, worked out. Assumes nothing.
use Rattle.std.specs.Prelude.{Some, Ok, Err}
use mathlib.Core.Path.{◌≡◌, refl}
use mathlib.Core.Bool.{true, false}
use lib.Ieee.{add, sub, mul, neg, lt, le, eq, of_bits, to_bits, round}
use Rattle.float32.specs.Libm.{is_finite, fabs}
use Rattle.wire.specs.Fields.{u8_at, number_at, u16_at, u32_at, f32_at, le8, le_bytes, le16, le32, le_f32}
use Rattle.wire.specs.Frame.{frame_head, check_frame}
use Rattle.corners.specs.OnceRound.{north_sign, sign_changes}
use Rattle.corners.specs.Acceptance.{polygon_fault, corner_fault, same_point, flat_turn, cross2, mixed_turns, area_term, polygon_area, polygon_tests}
use Rattle.corners.specs.declared.FenceError.{FenceError}
use Rattle.geometry.specs.Polygon.{polygon_new, geofence_new}
use Rattle.frame_fence.specs.FenceFrame.{point_at, corners_at, corner_array, asks_once_round, check_fence, corners_sent, read_fence, fence_rules, fence_of, corner_cells, fence_cells, fence_frame}
use Rattle.once_round.specs.Star.{star, small_star, zigzag, square, frame_of, answer, Star}

as_kind_2 : answer (frame_of false star) ≡ Some (Ok tt)
unfolding add sub mul lt le eq neg of_bits to_bits round is_finite fabs corner_fault same_point flat_turn cross2 mixed_turns area_term polygon_area polygon_tests polygon_new geofence_new u8_at number_at u16_at u32_at f32_at le8 le_bytes le16 le32 le_f32 check_frame frame_head point_at corners_at corner_array asks_once_round check_fence corners_sent read_fence fence_rules fence_of corner_cells fence_cells fence_frame
as_kind_2 = refl

as_kind_8 : answer (frame_of true star) ≡ Some (Err FenceError.NotOnceRound)
unfolding add sub mul lt le eq neg of_bits to_bits round is_finite fabs corner_fault same_point flat_turn cross2 mixed_turns area_term polygon_area polygon_tests polygon_new geofence_new north_sign sign_changes u8_at number_at u16_at u32_at f32_at le8 le_bytes le16 le32 le_f32 check_frame frame_head point_at corners_at corner_array asks_once_round check_fence corners_sent read_fence fence_rules fence_of corner_cells fence_cells fence_frame
as_kind_8 = refl

small_as_kind_2 : polygon_fault false 5 small_star ≡ Err FenceError.AreaTooSmall
unfolding add sub mul lt eq neg of_bits round is_finite fabs corner_fault same_point flat_turn cross2 mixed_turns area_term polygon_area polygon_tests
small_as_kind_2 = refl

small_as_kind_8 : polygon_fault true 5 small_star ≡ Err FenceError.NotOnceRound
unfolding add sub mul lt eq neg of_bits round is_finite fabs corner_fault same_point flat_turn cross2 mixed_turns area_term polygon_area polygon_tests north_sign sign_changes
small_as_kind_8 = refl

zigzag_changes : sign_changes zigzag ≡ 4
unfolding lt round north_sign sign_changes
zigzag_changes = refl

zigzag_as_kind_8 : polygon_fault true 5 zigzag ≡ Err FenceError.NotConvex
unfolding add sub mul lt eq neg of_bits round is_finite fabs corner_fault same_point flat_turn cross2 mixed_turns area_term polygon_area polygon_tests north_sign sign_changes
zigzag_as_kind_8 = refl

square_changes : sign_changes square ≡ 2
unfolding lt round north_sign sign_changes
square_changes = refl

square_as_kind_8 : polygon_fault true 4 square ≡ Ok tt
unfolding add sub mul lt eq neg of_bits round is_finite fabs corner_fault same_point flat_turn cross2 mixed_turns area_term polygon_area polygon_tests north_sign sign_changes
square_as_kind_8 = refl

pub the_star : Star
the_star =
    record {
      as_kind_2 = as_kind_2;
      as_kind_8 = as_kind_8;
      number = refl;
      small_as_kind_2 = small_as_kind_2;
      small_as_kind_8 = small_as_kind_8;
      zigzag_changes = zigzag_changes;
      zigzag_as_kind_8 = zigzag_as_kind_8;
      square_changes = square_changes;
      square_as_kind_8 = square_as_kind_8;
    }
