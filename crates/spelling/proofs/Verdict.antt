-- What the fence rules answer, by the rules of the corners and of the altitudes: the polygon that they hold is not asked. Assumes nothing.
use Prim.Native.Nat.{◌<◌}
use mathlib.Core.Path.{◌≡◌, ◌∙◌, refl, sym, ap}
use mathlib.Core.List.{List}
use mathlib.Core.Bool.{not, ◌||◌}
use lib.Ieee.{Float, le}
use Rattle.float32.specs.Libm.{is_finite}
use lib.ListN.{length, take}
use Rattle.std.specs.Prelude.{Result, Ok, Err, ⊤}
use Rattle.std.specs.Result.{result_and}
use Rattle.types.specs.declared.Point2.{Point2}
use Rattle.corners.specs.declared.FenceError.{FenceError}
use Rattle.corners.specs.Acceptance.{fault_if, polygon_fault, polygon_area, judged}
use Rattle.geometry.specs.declared.ConvexPolygon.{ConvexPolygon}
use Rattle.geometry.specs.declared.Geofence.{Geofence}
use Rattle.geometry.specs.Polygon.{held_polygon, polygon_new, geofence_new}
use Rattle.frame_fence.specs.declared.FenceRead.{FenceRead}
use Rattle.frame_fence.specs.FenceFrame.{with_altitudes, fence_rules, fence_of}
use Rattle.frame_fence.proofs.Rules.{new_many}
use Rattle.spelling.specs.Spell.{verdict}

pub many : (r : FenceRead) → 16 < r.count → verdict (fence_of r) ≡ Err FenceError.TooManyVertices
unfolding fence_of fence_rules
many r h = rw (new_many r.once_round r.count (take r.count r.corners) h)

same : (p q : ConvexPolygon) (x y : Float) → verdict (geofence_new p x y) ≡ verdict (geofence_new q x y)
unfolding geofence_new
same p q x y = by (fault_if (not (is_finite x) || not (is_finite y) || le y x) FenceError.BadAltitudes)
  where
    fence : ConvexPolygon → Geofence
    fence z = record { poly = z; max_alt_m = y; min_alt_m = x }

    by : (v : Result ⊤ FenceError) → verdict (result_and v (Ok (fence p))) ≡ verdict (result_and v (Ok (fence q)))
    by (Ok u) = refl
    by (Err e) = refl

pub by_parts : (r : FenceRead) (p : ConvexPolygon) → length (take r.count r.corners) ≡ r.count
    → verdict (fence_of r) ≡ result_and (judged r.once_round (take r.count r.corners)) (verdict (geofence_new p r.min_alt_m r.max_alt_m))
unfolding fence_of fence_rules polygon_new judged
by_parts r p n =
    by (polygon_fault r.once_round r.count l) ∙ ap (λ i. result_and (result_and (polygon_fault r.once_round i l) (Ok (polygon_area l))) (verdict (geofence_new p r.min_alt_m r.max_alt_m))) (sym n)
  where
    l : List Point2
    l = take r.count r.corners

    by : (v : Result ⊤ FenceError)
        → verdict (with_altitudes r.min_alt_m r.max_alt_m (result_and v (Ok (held_polygon l))))
        ≡ result_and (result_and v (Ok (polygon_area l))) (verdict (geofence_new p r.min_alt_m r.max_alt_m))
    by (Ok u) = same (held_polygon l) p r.min_alt_m r.max_alt_m
    by (Err e) = refl
