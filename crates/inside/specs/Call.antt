-- `failsafe_inside`: a row of points judged against one fence. Assumes nothing.
use Rattle.std.specs.Prelude.{ℕ, zero, suc, ◌*◌, ◌/◌, ◌%◌, cond, List, [], ◌++◌, eqb, ltb, length, drop, Result, Ok, Err, ⊤}
use Rattle.types.specs.declared.Point2.{Point2}
use Rattle.wire.specs.Fields.{le_flag, le8}
use Rattle.wire.specs.declared.FrameError.{FrameError}
use Rattle.wire.specs.Frame.{frame_error_number}
use Rattle.corners.specs.Acceptance.{fence_error_number}
use Rattle.geometry.specs.declared.Geofence.{Geofence}
use Rattle.geometry.specs.Distance.{ring_of}
use Rattle.frame_fence.specs.declared.FenceRead.{FenceRead}
use Rattle.frame_fence.specs.FenceFrame.{point_at, read_fence, fence_of}
use Rattle.inside.specs.declared.Inside.{Inside}
use Rattle.inside.specs.declared.InsideError.{InsideError}
use Rattle.inside.specs.Inside.{inside}
use Rattle.corners.specs.declared.FenceError.{FenceError}

-- the number returned, and the output at the end
pub record InsideCall : Type 0 where
  pub number : ℕ
  pub output : List ℕ

-- a point's two bytes: 1 for inside or 0, then the number of sides read
abbrev pub answer_bytes : Inside → List ℕ
answer_bytes r = le_flag r.yes ++ le8 r.read

-- the answers to the first n points, eight bytes each
unfoldable pub answers : (Point2 → Inside) → List ℕ → ℕ → List ℕ
answers f points zero = []
answers f points (suc n) = answers f points n ++ answer_bytes (f (point_at points (8 * n)))

-- points of a length that is not a multiple of 8 are 3; then output under 2 bytes a point is 5; later output bytes stay
unfoldable pub judged : (Point2 → Inside) → List ℕ → List ℕ → InsideCall
judged f points output =
    let n = length points / 8 in
    cond (eqb (length points % 8) 0)
    (cond (ltb (length output) (2 * n)) (record { number = 5; output = output }) (record { number = 0; output = answers f points n ++ drop (2 * n) output }))
    (record { number = 3; output = output })

-- the points, by the fence that the rules accept
abbrev pub accepted : Result Geofence FenceError → List ℕ → List ℕ → InsideCall
accepted (Err e) points output = record { number = fence_error_number e; output = output }
accepted (Ok fence) points output = judged (inside (ring_of fence.poly)) points output

-- the fence rules on what was read
abbrev pub ruled : Result FenceRead FrameError → List ℕ → List ℕ → InsideCall
ruled (Err e) points output = record { number = frame_error_number e; output = output }
ruled (Ok read) points output = accepted (fence_of read) points output

-- fence frame, fence rules, points, output
unfoldable pub inside_call : List ℕ → List ℕ → List ℕ → InsideCall
inside_call fence points output = ruled (read_fence fence) points output

-- the number of a refusal; 0 where nothing is refused
abbrev pub inside_error_number : InsideError → ℕ
inside_error_number (InsideError.Frame e) = frame_error_number e
inside_error_number (InsideError.Fence e) = fence_error_number e

abbrev pub inside_number : Result ⊤ InsideError → ℕ
inside_number (Ok tt) = 0
inside_number (Err e) = inside_error_number e
