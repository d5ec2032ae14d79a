-- `frame_areas::area_distance` meets its contract. Assumes nothing.
use mathlib.Core.Path.{◌∙◌, ap}
use native.Mathlib.Omega.{arith}
use Prim.Native.Nat.{min}
use lib.ListN.{drop}
use lib.Seq.{take_all}
use Rattle.frame_areas.specs.AreaFrame.{corners_sent, distance_at}
use Rattle.frame_areas.proofs.Walk.{sent, length_sent}
use Rattle.frame_areas.proofs.area_distance.Goals as goal

pub returns : goal.returns
unfolding distance_at
returns c =
    let b = c.args.body.now in
    let n = c.capped-n.ensures ∙ ap (λ k. min k 16) (c.from.ensures ∙ c.u8_at.ensures) in
    let few = take_all 16 (corners_sent (drop 1 b)) (omega (arith, length_sent (drop 1 b))) in
    rw (c.signed_distance.ensures, c.held.ensures, c.corners_at-corners.ensures, sent b c.capped-n.result n, few)
