-- `frame_areas::check_body` meets its contract. Assumes nothing.
use Prim.Native.Nat.{ℕ, ◌≤◌, ◌<◌}
use mathlib.Core.Path.{◌≡◌, ◌∙◌, refl, sym, ap}
use mathlib.Core.Bool.{Bool, true, false}
use lib.ListN.{drop}
use lib.Ieee.{lt}
use borrow.Author.Tests.{le-ltb, lt-ltb}
use Rattle.std.specs.Prelude.{Result, Ok, Err, ⊤}
use Rattle.std.proofs.lemmas.Result.{err_from_is_err_and}
use Rattle.float32.specs.Binary32.{zero_f}
use Rattle.wire.specs.Fields.{u8_at}
use Rattle.std.specs.Result.{result_and}
use Rattle.corners.specs.Acceptance.{polygon_fault}
use Rattle.geometry.specs.declared.ConvexPolygon.{ConvexPolygon}
use Rattle.geometry.specs.Polygon.{zero_point, held_polygon, polygon_new}
use Rattle.geometry.specs.Distance.{ring_of, signed_distance}
use Rattle.corners.specs.declared.FenceError.{FenceError}
use Rattle.corners.specs.Acceptance.{fence_error_number}
use Rattle.frame_fence.specs.FenceFrame.{fence_number}
use Rattle.areas.specs.Held.{area_fault}
use Rattle.frame_areas.specs.AreaFrame.{Sent, corners_sent, area_rules, area_of}
use Rattle.frame_areas.proofs.Walk.{byte_behind, first_some}
use Rattle.frame_areas.proofs.Numbers.{fence_some}
use Rattle.frame_areas.proofs.check_body.Goals as goal
use Rattle.frame_areas.proofs.check_body.Goals.{After-home_inside, After-check_polygon}

-- the number of a polygon's refusal is that of its corners, and it holds them where they are accepted
number_before : {A : Type 0} (v : Result ⊤ FenceError) (a : A) → fence_number (result_and v (Ok a)) ≡ fence_number v
number_before (Ok tt) a = refl
number_before (Err e) a = refl

held_then : (v : Result ⊤ FenceError) (p q : ConvexPolygon) → result_and v (Ok p) ≡ Ok q → p ≡ q
held_then (Ok tt) p q h = cc
held_then (Err e) p q h = cc

-- so its faults are those of the rules
faults : (c : After-check_polygon) → fence_number c.check_polygon.result ≡ area_rules.fault (drop 1 c.args.body.now)
unfolding area_rules polygon_new
faults c =
    let b = c.args.body.now in
    rw (c.check_polygon.ensures, number_before (polygon_fault true (u8_at b 1) (corners_sent (drop 1 b))) (held_polygon (corners_sent (drop 1 b))), byte_behind b 1 0)

-- and home is inside it by the rules
home : (c : After-home_inside) → c.home_inside.result ≡ area_rules.home_inside (drop 1 c.args.body.now)
unfolding area_rules polygon_new
home c =
    let b = c.args.body.now in
    let l = corners_sent (drop 1 b) in
    let p = held_then (polygon_fault true (u8_at b 1) l) (held_polygon l) c.in_ok-poly.poly (sym c.check_polygon.ensures ∙ c.in_ok-poly.was) in
    c.home_inside.ensures ∙ ap (λ (q : ConvexPolygon). lt zero_f (signed_distance (ring_of q) zero_point)) (sym p)

-- the rules, in their order
module _ (w : Bool) (n : ℕ) (a : Sent) where
  polygon : (r : Result ConvexPolygon FenceError) (e : FenceError) → r ≡ Err e → fence_number r ≡ area_rules.fault a.corners → fence_error_number e ≡ area_fault area_rules w n a
  unfolding area_fault
  polygon r e h f = rw (← f, h) (sym (first_some _ _ (fence_some e)))

  module _ (f : area_rules.fault a.corners ≡ 0) where
    number : w ≡ true → 31 ≡ area_fault area_rules w n a
    unfolding area_fault
    number h = rw (f, h)

    ninth : w ≡ false → 8 ≤ n → 30 ≡ area_fault area_rules w n a
    unfolding area_fault
    ninth h k = rw (f, h, le-ltb n 8 k)

    around : w ≡ false → n < 8 → area_rules.home_inside a.corners ≡ true → 32 ≡ area_fault area_rules w n a
    unfolding area_fault
    around h k q = rw (f, h, lt-ltb n 8 k, q)

    accepted : w ≡ false → n < 8 → area_rules.home_inside a.corners ≡ false → 0 ≡ area_fault area_rules w n a
    unfolding area_fault
    accepted h k q = rw (f, h, lt-ltb n 8 k, q)

-- the polygon is accepted
none : (c : After-check_polygon) (x : ConvexPolygon) → c.check_polygon.result ≡ Ok x → area_rules.fault (drop 1 c.args.body.now) ≡ 0
none c x e = sym (faults c) ∙ ap fence_number e

pub returns-in_err-poly : goal.returns-in_err-poly
returns-in_err-poly c =
    let p = err_from_is_err_and c.from_residual.result c.from_residual.ensures.1 in
    rw (p.1, p.2) (polygon c.args.wrong_number c.args.n (area_of c.args.body.now) c.check_polygon.result c.in_err-poly.field-0.0 c.in_err-poly.was (faults (goal.at.returns-in_err-poly c).After-check_polygon))

pub returns-then-wrong_number : goal.returns-then-wrong_number
returns-then-wrong_number c =
    number c.args.wrong_number c.args.n (area_of c.args.body.now) (none (goal.at.returns-then-wrong_number c).After-check_polygon c.in_ok-poly.poly c.in_ok-poly.was) c.if-wrong_number.true

pub returns-then-n-ge8 : goal.returns-then-n-ge8
returns-then-n-ge8 c =
    ninth c.args.wrong_number c.args.n (area_of c.args.body.now) (none (goal.at.returns-then-n-ge8 c).After-check_polygon c.in_ok-poly.poly c.in_ok-poly.was) c.if-wrong_number.false c.if-n-ge8.true

pub returns-then-home_inside : goal.returns-then-home_inside
returns-then-home_inside c =
    let g = goal.at.returns-then-home_inside c in
    around c.args.wrong_number c.args.n (area_of c.args.body.now) (none g.After-check_polygon c.in_ok-poly.poly c.in_ok-poly.was) c.if-wrong_number.false c.if-n-ge8.false (sym (home g.After-home_inside) ∙ c.if-home_inside.true)

pub returns : goal.returns
returns c =
    let g = goal.at.returns c in
    accepted c.args.wrong_number c.args.n (area_of c.args.body.now) (none g.After-check_polygon c.in_ok-poly.poly c.in_ok-poly.was) c.if-wrong_number.false c.if-n-ge8.false (sym (home g.After-home_inside) ∙ c.if-home_inside.false)
