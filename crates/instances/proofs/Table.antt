-- Document 01's table holds, by computing each row. Assumes nothing.
use Rattle.std.specs.Prelude.{Some, None, Ok, Err}
use Prim.Native.Nat.{◌-◌, ◌^◌}
use mathlib.Core.Bool.{true, false}
use mathlib.Core.Path.{◌≡◌, refl, ap, sym, ◌∙◌}
use lib.Ieee.{binary32, add, sub, mul, div, neg, lt, le, eq, of_bits, to_bits, of_int, round}
use Rattle.types.specs.declared.Action.{Action}
use Rattle.types.specs.declared.Reason.{Reason}
use Rattle.corners.specs.declared.FenceError.{FenceError}
use Rattle.types.specs.ActiveSet.{empty_set, set_request, higher_request, requested_action}
use Rattle.time.specs.Time.{wrapping, wrapping_sub, age, fresh, hold_met}
use Rattle.float32.specs.Sqrt.{square_root}
use Rattle.float32.proofs.SquareRoot.{of_250000}
use Rattle.float32.specs.Libm.{is_finite, fabs}
use Rattle.corners.specs.Acceptance.{polygon_fault, corner_fault, same_point, flat_turn, cross2, mixed_turns, area_term, polygon_area, polygon_tests}
use Rattle.geometry.specs.Distance.{side_length, edge_signed_distance_by, signed_distance}
use Rattle.config.specs.Default.{decimal, default_fence}
use Rattle.validate.specs.Glitch.{distance_between, within_jump, accept_sample, apply_glitch_filter}
use Rattle.arbiter.specs.Arbiter.{request, recover, apply_persistence, apply_feasibility, arbitrate}
use Rattle.instances.specs.Table.{Table, whole_number, triangle, north_of, fence_distance, filtered_at, shown_at}

age_wraps : age wrapping 5 4294967291 ≡ Some 10
unfolding wrapping_sub age
age_wraps = refl

age_longest : age wrapping (2 ^ 31 - 1) 0 ≡ Some 2147483647
unfolding wrapping_sub age
age_longest = refl

age_absent : age wrapping (2 ^ 31) 0 ≡ None
unfolding wrapping_sub age
age_absent = refl

at_limit : fresh wrapping 1000 0 1000 ≡ true
unfolding wrapping_sub age fresh
at_limit = refl

past_limit : fresh wrapping 1001 0 1000 ≡ false
unfolding wrapping_sub age fresh
past_limit = refl

bits_of_250000 : whole_number 250000 ≡ of_bits binary32 0x4874_2400
unfolding of_bits round
bits_of_250000 = refl

bits_of_500 : whole_number 500 ≡ of_bits binary32 0x43FA_0000
unfolding of_bits round
bits_of_500 = refl

root_of_250000 : square_root (whole_number 250000) ≡ whole_number 500
root_of_250000 = ap square_root bits_of_250000 ∙ of_250000 ∙ sym bits_of_500

root_of_2 : to_bits binary32 (square_root (whole_number 2)) ≡ 0x3FB5_04F3
unfolding of_bits to_bits round square_root
root_of_2 = refl

root_of_least : to_bits binary32 (square_root (of_bits binary32 0x0000_0001)) ≡ 0x1A35_04F3
unfolding of_bits to_bits round square_root
root_of_least = refl

fence_at_home : fence_distance 0 ≡ whole_number 500
unfolding add sub mul div neg lt of_bits round square_root area_term polygon_area side_length edge_signed_distance_by signed_distance default_fence
fence_at_home = refl

fence_inside : fence_distance 495 ≡ whole_number 5
unfolding add sub mul div neg lt of_bits round square_root area_term polygon_area side_length edge_signed_distance_by signed_distance default_fence
fence_inside = refl

fence_outside : fence_distance 501 ≡ neg (whole_number 1)
unfolding add sub mul div neg lt of_bits round square_root area_term polygon_area side_length edge_signed_distance_by signed_distance default_fence
fence_outside = refl

area_enough : polygon_fault false 3 (triangle (whole_number 20)) ≡ Ok tt
unfolding add sub mul lt eq neg of_bits round is_finite fabs corner_fault same_point flat_turn cross2 mixed_turns area_term polygon_area polygon_tests
area_enough = refl

area_too_small : polygon_fault false 3 (triangle (decimal 199 10)) ≡ Err FenceError.AreaTooSmall
unfolding add sub mul lt eq neg of_bits round is_finite fabs corner_fault same_point flat_turn cross2 mixed_turns area_term polygon_area polygon_tests
area_too_small = refl

names_ekf : requested_action (set_request (set_request empty_set Reason.GpsLost Action.Land) Reason.EkfUnhealthy Action.Land).reqs ≡ request Reason.EkfUnhealthy Action.Land
unfolding set_request higher_request requested_action
names_ekf = refl

jump_kept : filtered_at 55 ≡ Some (north_of 2000 55)
unfolding add sub mul div neg le lt eq of_bits of_int round wrapping_sub age square_root distance_between within_jump accept_sample apply_glitch_filter
jump_kept = refl

jump_refused : filtered_at 56 ≡ None
unfolding add sub mul div neg le lt eq of_bits of_int round wrapping_sub age square_root distance_between within_jump accept_sample apply_glitch_filter
jump_refused = refl

hold_unmet : shown_at 5999 ≡ Action.ReturnToLaunch
unfolding wrapping_sub age hold_met recover apply_persistence apply_feasibility arbitrate
hold_unmet = refl

hold_met_lem : shown_at 6000 ≡ Action.Warn
unfolding wrapping_sub age hold_met recover apply_persistence apply_feasibility arbitrate
hold_met_lem = refl

pub table_of_instances : Table
table_of_instances =
    record {
      age_wraps = age_wraps;
      age_longest = age_longest;
      age_absent = age_absent;
      at_limit = at_limit;
      past_limit = past_limit;
      root_of_250000 = root_of_250000;
      root_of_2 = root_of_2;
      root_of_least = root_of_least;
      fence_at_home = fence_at_home;
      fence_inside = fence_inside;
      fence_outside = fence_outside;
      area_enough = area_enough;
      area_too_small = area_too_small;
      names_ekf = names_ekf;
      jump_kept = jump_kept;
      jump_refused = jump_refused;
      hold_unmet = hold_unmet;
      hold_met_lem = hold_met_lem;
    }
