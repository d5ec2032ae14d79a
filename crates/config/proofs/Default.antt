-- The default fence is accepted, by running the rules. Assumes nothing.
use mathlib.Core.Path.{refl}
use lib.Ieee.{add, sub, mul, neg, lt, le, eq, of_bits, round}
use Rattle.float32.specs.Libm.{is_finite, fabs}
use Rattle.corners.specs.Acceptance.{corner_fault, same_point, flat_turn, cross2, mixed_turns, area_term, polygon_area, polygon_tests}
use Rattle.geometry.specs.Polygon.{polygon_new, geofence_new}
use Rattle.config.specs.Default.{default_fence, DefaultAccepted}

pub default_accepted : DefaultAccepted
unfolding add sub mul neg lt le eq of_bits round is_finite fabs corner_fault same_point flat_turn cross2 mixed_turns area_term polygon_area polygon_tests polygon_new geofence_new default_fence
default_accepted = record { corners = refl; altitudes = refl }
