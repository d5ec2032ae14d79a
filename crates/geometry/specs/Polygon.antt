-- How accepted corners are held, and a fence of them. The quotations are of document 01's paragraph on geometry. Assumes nothing.
use Rattle.std.specs.Prelude.{ℕ, ◌-◌, Bool, not, ◌||◌, cond, List, ◌++◌, reverse, length, replicate, Float, Result, Ok}
use Rattle.std.specs.Result.{result_and}
use Rattle.std.specs.Float.Ieee.{lt, le}
use Rattle.float32.specs.Binary32.{zero_f}
use Rattle.float32.specs.Libm.{is_finite}
use Rattle.types.specs.declared.Point2.{Point2}
use Rattle.corners.specs.declared.FenceError.{FenceError}
use Rattle.corners.specs.Acceptance.{fault_if, polygon_fault, polygon_area}
use Rattle.geometry.specs.declared.ConvexPolygon.{ConvexPolygon}
use Rattle.geometry.specs.declared.Geofence.{Geofence}

abbrev pub zero_point : Point2
zero_point = record { n = zero_f; e = zero_f }

-- "Held counter-clockwise, reversed where the area is negative."
abbrev pub held_order : Bool → List Point2 → List Point2
held_order ccw l = cond ccw l (reverse l)

-- the corners as held; unused places are zero
abbrev pub normalize_ccw : Bool → List Point2 → ConvexPolygon
normalize_ccw ccw l = record { verts = held_order ccw l ++ replicate (16 - length l) zero_point; len = length l }

-- reversed where their area is not above 0
abbrev pub held_polygon : List Point2 → ConvexPolygon
held_polygon l = normalize_ccw (lt zero_f (polygon_area l)) l

-- the corners as held, or the first error of n corners, by the rule of kind 8 too where it is asked
unfoldable pub polygon_new : Bool → ℕ → List Point2 → Result ConvexPolygon FenceError
polygon_new once n l = result_and (polygon_fault once n l) (Ok (held_polygon l))

-- The Rust's Geofence::new: both altitudes finite, and the lower below the upper.
unfoldable pub geofence_new : ConvexPolygon → Float → Float → Result Geofence FenceError
geofence_new p min_alt max_alt =
    result_and
    (fault_if (not (is_finite min_alt) || not (is_finite max_alt) || le max_alt min_alt) FenceError.BadAltitudes)
    (Ok (record { poly = p; max_alt_m = max_alt; min_alt_m = min_alt }))
