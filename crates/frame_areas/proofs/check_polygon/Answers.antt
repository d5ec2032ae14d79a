-- `frame_areas::check_polygon` meets its contract. Assumes nothing.
use Prim.Native.Nat.{min}
use mathlib.Core.Path.{◌≡◌, ◌∙◌}
use native.Mathlib.Omega.{arith}
use mathlib.Core.Bool.{true}
use lib.ListN.{drop}
use Rattle.wire.specs.Fields.{u8_at}
use Rattle.corners.proofs.Callers.{too_many}
use Rattle.geometry.specs.Polygon.{polygon_new}
use Rattle.frame_areas.specs.AreaFrame.{corners_sent}
use Rattle.frame_areas.proofs.Walk.{byte_behind, sent, length_sent}
use Rattle.frame_areas.proofs.check_polygon.Goals as goal

pub returns-then-n-gt16 : goal.returns-then-n-gt16
unfolding polygon_new
returns-then-n-gt16 c =
    let b = c.args.body.now in
    rw (too_many true (u8_at b 1) (corners_sent (drop 1 b)) (omega (arith, c.if-n-gt16.true, c.from-n.ensures, c.u8_at.ensures)))

pub returns : goal.returns
returns c =
    let b = c.args.body.now in
    let n : c.from-n.result ≡ u8_at b 1 = c.from-n.ensures ∙ c.u8_at.ensures in
    let h = c.if-n-gt16.false in
    let m : c.from-n.result ≡ min (u8_at b 1) 16 = omega (arith, n, h) in
    let k : min (u8_at (drop 1 b) 0) 16 ≡ u8_at b 1 = omega (arith, byte_behind b 1 0, n, h) in
    rw (c.new_by.ensures, c.corners_at-corners.ensures, sent b c.from-n.result m, length_sent (drop 1 b), k)
