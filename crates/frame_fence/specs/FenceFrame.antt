-- Kind 2: "fence: corner count (1 byte), min altitude, max altitude, corners north, east", 9 + 8 × count bytes. Document 02, L5: "Fences come as
-- kind 8 too, with kind 2's body and one more rule". Assumes nothing.
use Rattle.std.specs.Prelude.{ℕ, zero, suc, ◌+◌, ◌*◌, ◌-◌, min, List, [], ◌∷◌, ◌++◌, Bool, cond, eqb, ltb, length, take, replicate, Float, Result, Ok, Err, ⊤}
use Rattle.wire.specs.Fields.{u8_at, u16_at, f32_at}
use Rattle.wire.specs.Cell.{Cell, u8, f32, bytes_of}
use Rattle.wire.specs.declared.FrameError.{FrameError}
use Rattle.wire.specs.Frame.{frame_error_number, frame_number, check_frame, frame_head, check_room, frame_written}
use Rattle.types.specs.declared.Point2.{Point2}
use Rattle.geometry.specs.declared.ConvexPolygon.{ConvexPolygon}
use Rattle.geometry.specs.declared.Geofence.{Geofence}
use Rattle.std.specs.Result.{result_and, result_map_both}
use Rattle.corners.specs.Acceptance.{fence_error_number}
use Rattle.geometry.specs.Polygon.{zero_point, polygon_new, geofence_new}
use Rattle.frame_fence.specs.declared.FenceRead.{FenceRead}
use Rattle.frame_fence.specs.declared.WriteError.{WriteError}
use Rattle.corners.specs.declared.FenceError.{FenceError}

-- the kind of a fence whose corners have to go round once, and of any other
abbrev pub fence_kind : Bool → ℕ
fence_kind once = cond once 8 2

unfoldable pub point_at : List ℕ → ℕ → Point2
point_at s i = record { n = f32_at s i; e = f32_at s (i + 4) }

-- n corners from i on
unfoldable pub corners_at : List ℕ → ℕ → ℕ → List Point2
corners_at s i zero = []
corners_at s i (suc n) = point_at s i ∷ corners_at s (i + 8) n

-- corners in an array of sixteen places, the unused ones zero
unfoldable pub corner_array : List Point2 → List Point2
corner_array l = l ++ replicate (16 - length l) zero_point

-- whether the one more rule is asked: the kind is 8. Any kind but 2 and 8 is not the kind due
unfoldable pub asks_once_round : List ℕ → Bool
asks_once_round s = eqb (u16_at s 2) 8

-- the length due is that of the count sent. Without a count byte it is none that the frame can have: "A kind 2 body without its count byte is 3."
unfoldable pub check_fence : List ℕ → Result ⊤ FrameError
check_fence s = check_frame (fence_kind (asks_once_round s)) (11 + 8 * u8_at s 4) s

-- its number, 0 for none
abbrev pub fence_fault : List ℕ → ℕ
fence_fault s = frame_number (check_fence s)

-- "the corners as sent, at most 16"
unfoldable pub corners_sent : List ℕ → List Point2
corners_sent s = corners_at s 13 (min (u8_at s 4) 16)

-- what an accepted frame gives: its kind, the count, the altitudes and the corners, none of them judged yet
abbrev pub fence_sent : Bool → ℕ → Float → Float → List Point2 → FenceRead
fence_sent once n min_alt max_alt l = record { once_round = once; count = n; min_alt_m = min_alt; max_alt_m = max_alt; corners = corner_array l }

-- the frame read: the head's refusal, or the fence as sent
unfoldable pub read_fence : List ℕ → Result FenceRead FrameError
read_fence s = result_and (check_fence s) (Ok (fence_sent (asks_once_round s) (u8_at s 4) (f32_at s 5) (f32_at s 9) (corners_sent s)))

-- the altitudes of a polygon that was accepted
abbrev pub with_altitudes : Float → Float → Result ConvexPolygon FenceError → Result Geofence FenceError
with_altitudes min_alt max_alt (Ok poly) = geofence_new poly min_alt max_alt
with_altitudes min_alt max_alt (Err e) = Err e

-- the fence rules: those of the polygon, with the count as sent, the one more for kind 8, and last the altitudes; the first error decides
unfoldable pub fence_rules : Bool → ℕ → Float → Float → List Point2 → Result Geofence FenceError
fence_rules once n min_alt max_alt l = with_altitudes min_alt max_alt (polygon_new once n l)

-- the rules on what was read
unfoldable pub fence_of : FenceRead → Result Geofence FenceError
fence_of r = fence_rules r.once_round r.count r.min_alt_m r.max_alt_m (take r.count r.corners)

-- the number of what the rules answer; 0 for none
abbrev pub fence_number : {A : Type 0} → Result A FenceError → ℕ
fence_number (Ok x) = 0
fence_number (Err e) = fence_error_number e

-- the body as cells
abbrev pub point_cells : Point2 → List Cell
point_cells p = f32 p.n ∷ f32 p.e ∷ []

unfoldable pub corner_cells : List Point2 → List Cell
corner_cells [] = []
corner_cells (p ∷ l) = point_cells p ++ corner_cells l

unfoldable pub fence_cells : ℕ → Float → Float → List Point2 → List Cell
fence_cells n min_alt max_alt l = u8 n ∷ f32 min_alt ∷ f32 max_alt ∷ corner_cells l

-- the whole frame of n corners, the first n of l: 11 + 8 × n bytes of kind and body
unfoldable pub fence_frame : Bool → ℕ → Float → Float → List Point2 → List ℕ
fence_frame once n min_alt max_alt l = frame_head (fence_kind once) (11 + 8 * n) ++ bytes_of (fence_cells n min_alt max_alt (take n l))

-- the frame of a fence
abbrev pub frame_of : FenceRead → List ℕ
frame_of r = fence_frame r.once_round r.count r.min_alt_m r.max_alt_m r.corners

-- the error of a fence's frame that is not written, and its number
abbrev pub write_error_number : WriteError → ℕ
write_error_number (WriteError.Fence e) = fence_error_number e
write_error_number (WriteError.Frame e) = frame_error_number e

abbrev pub write_number : Result ⊤ WriteError → ℕ
write_number (Ok tt) = 0
write_number (Err e) = write_error_number e

-- An array of sixteen corners makes no frame of more: then the error is TooManyVertices, and nothing is written.
unfoldable pub check_write : ℕ → List ℕ → List ℕ → Result ⊤ WriteError
check_write n f s =
    cond (ltb 16 n) (Err (WriteError.Fence FenceError.TooManyVertices)) (result_map_both (λ x. x) WriteError.Frame (check_room f s))

unfoldable pub fence_written : ℕ → List ℕ → List ℕ → List ℕ
fence_written n f s = cond (ltb 16 n) s (frame_written f s)
