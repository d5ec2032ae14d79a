-- Kind 7, document 02, L3: "A kind 7 frame holds an area: its number (1 byte), corner count (1 byte) and corners as in a fence." Assumes nothing.
use Rattle.std.specs.Prelude.{ℕ, ◌+◌, ◌*◌, min, true, List, ◌∷◌, ◌++◌, length, drop, Float, Result, Ok, Err, ⊤}
use Rattle.std.specs.Float.Ieee.{lt}
use Rattle.float32.specs.Binary32.{zero_f}
use Rattle.types.specs.declared.Point2.{Point2}
use Rattle.corners.specs.Acceptance.{fence_error_number, polygon_fault}
use Rattle.geometry.specs.Polygon.{zero_point, held_polygon}
use Rattle.geometry.specs.Distance.{ring_of, signed_distance}
use Rattle.wire.specs.Fields.{u8_at}
use Rattle.wire.specs.declared.FrameError.{FrameError}
use Rattle.wire.specs.Frame.{frame_error_number, frame_number, check_frame, frame_head}
use Rattle.frame_fence.specs.FenceFrame.{corners_at, fence_number}
use Rattle.areas.specs.Held.{Area, Rules}
use Rattle.frame_areas.specs.declared.AreaError.{AreaError}

-- ---- the numbers of the refusals
abbrev pub area_error_number : AreaError → ℕ
area_error_number (AreaError.Frame e) = frame_error_number e
area_error_number (AreaError.Corners e) = fence_error_number e
area_error_number AreaError.NinthArea = 30
area_error_number AreaError.AreaNumber = 31
area_error_number AreaError.HomeInArea = 32

-- 0 where nothing is refused
abbrev pub area_number : {A : Type 0} → Result A AreaError → ℕ
area_number (Ok x) = 0
area_number (Err e) = area_error_number e

-- an area as sent: its number, and the bytes behind it, the corner count and the corners, bit for bit
abbrev pub Sent : Type 0
Sent = Area (List ℕ)

-- ---- what is asked of those bytes, b

-- "corners as in a fence"; of a count above sixteen, which is refused, the first sixteen
unfoldable pub corners_sent : List ℕ → List Point2
corners_sent b = corners_at b 1 (min (u8_at b 0) 16)

-- the corners as a distance is taken from them: counter-clockwise, as a fence's are held
abbrev pub ring_sent : List ℕ → List Point2
ring_sent b = ring_of (held_polygon (corners_sent b))

-- "polygon faults as 10 to 17 first", L5: "and the corners of areas must meet that rule too"; ".. 32 where home has signed distance above 0"
unfoldable pub area_rules : Rules (List ℕ)
area_rules =
    record {
      fault = λ b. fence_number (polygon_fault true (u8_at b 0) (corners_sent b));
      home_inside = λ b. lt zero_f (signed_distance (ring_sent b) zero_point);
    }

-- an area's "signed distance" at a point
unfoldable pub distance_at : Point2 → Sent → Float
distance_at p a = signed_distance (ring_sent a.corners) p

-- ---- bytes

-- a body's bytes, and the area of a body
abbrev pub body_of : Sent → List ℕ
body_of a = a.number ∷ a.corners

abbrev pub area_of : List ℕ → Sent
area_of body = record { number = u8_at body 0; corners = drop 1 body }

-- how many bytes a body has, by its corner count
abbrev pub body_size : List ℕ → ℕ
body_size body = 2 + 8 * u8_at body 1

-- the refusal that the frame earns, by document 01's order: its length has to be that of its corner count
unfoldable pub check_area_frame : List ℕ → Result ⊤ FrameError
check_area_frame s = check_frame 7 (2 + body_size (drop 4 s)) s

-- its number, 0 for none
abbrev pub area_frame_fault : List ℕ → ℕ
area_frame_fault s = frame_number (check_area_frame s)

-- the area of a frame
unfoldable pub area_in : List ℕ → Sent
area_in s = area_of (drop 4 s)

-- the whole frame
unfoldable pub area_frame : Sent → List ℕ
area_frame a = frame_head 7 (2 + length (body_of a)) ++ body_of a
