-- `frame_wide::copy` meets its contract. Assumes nothing.
use Prim.Native.Nat.{◌+◌, ◌-◌}
use mathlib.Core.Path.{◌≡◌, ◌∙◌, ap}
use native.Mathlib.Omega.{arith}
use lib.ListN.{length, take, drop, length-drop}
use lib.Seq.{length-take-le}
use Rattle.frame_wide.proofs.Places.{part_stored}
use Rattle.frame_wide.proofs.copy.Goals as goal

pub returns : goal.returns
returns g c =
    let a = c.args in
    let n = g.row.N in
    let part = take n (drop a.p a.s.now) in
    let long : length part ≡ n = length-take-le n (drop a.p a.s.now) (omega (arith, length-drop a.p a.s.now, c.requires.0)) in
    let count : a.p + n - a.p ≡ n = omega arith in
    part_stored a.to.now part a.at (omega (arith, long, c.requires.1)) (omega (arith, long))
    (c.copy_from_slice.ensures.after ∙ ap (λ (k : _). take k (drop a.p a.s.now)) count)
