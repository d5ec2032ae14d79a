-- What one way round the corners tells of the tests that Acceptance has. Assumes nothing.
use Rattle.std.specs.Prelude.{Bool, false, ◌&&◌, ◌||◌, List, Float, Result, Ok}
use Rattle.std.specs.List.{list_any}
use Rattle.std.specs.Result.{result_and}
use Rattle.std.specs.Float.{binary32}
use Rattle.std.specs.Float.Ieee.{add, neg, lt, le}
use Rattle.float32.specs.Binary32.{zero_f}
use Rattle.types.specs.declared.Point2.{Point2}
use Rattle.corners.specs.Ring.{turns}
use Rattle.corners.specs.Acceptance.{envelope, first_fault, corner_fault, flat_turn, cross2, area_term, polygon_area}
use Rattle.corners.specs.declared.Round.{Round}
use Rattle.corners.specs.declared.FenceError.{FenceError}

unfoldable pub round_of : List Point2 → Round
round_of l =
    record {
      flat = list_any flat_turn (turns l);
      pos = list_any (λ t. lt zero_f (cross2 t)) (turns l);
      neg = list_any (λ t. lt (cross2 t) zero_f) (turns l);
      area = polygon_area l;
    }

-- it, unless a corner has a fault
abbrev pub checked_round : List Point2 → Result Round FenceError
checked_round l = result_and (first_fault corner_fault l) (Ok (round_of l))

-- one turn more; the area's terms are still to be halved
abbrev pub with_turn : Round → Point2 × (Point2 × Point2) → Round
with_turn r t =
    record {
      flat = r.flat || flat_turn t;
      pos = r.pos || lt zero_f (cross2 t);
      neg = r.neg || lt (cross2 t) zero_f;
      area = add binary32 r.area (area_term (t.0, t.1.0));
    }

abbrev pub no_turns : Round
no_turns = record { flat = false; pos = false; neg = false; area = zero_f }

-- from −10,000 to 10,000
abbrev pub within : Float → Bool
within x = le x envelope && le (neg envelope) x
