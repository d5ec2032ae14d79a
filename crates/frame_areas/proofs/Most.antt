-- What an accepted frame of areas tells: they are good, and it has at most 1045 bytes. Assumes nothing.
use Prim.Native.Nat.{ℕ, ◌≤◌}
use native.Mathlib.Omega.{arith}
use mathlib.Core.Path.{◌≡◌, ap}
use mathlib.Core.List.{List}
use lib.ListN.{length, drop, length-drop}
use Rattle.wire.specs.Fields.{u8_at}
use Rattle.areas.proofs.Good.{Good}
use Rattle.frame_areas.specs.AreaFrame.{area_rules}
use Rattle.frame_areas.specs.AreasFrame.{held_in, areas_fault}
use Rattle.frame_areas.proofs.Walk.{filled}
use Rattle.frame_areas.proofs.Frames.{accepted, accepted_fit, bodies_small}

pub held_good : (s : List ℕ) → areas_fault s ≡ 0 → Good area_rules (held_in s)
held_good s e = (accepted s e).good

-- a body has at most 130 bytes
pub areas_most : (s : List ℕ) → areas_fault s ≡ 0 → length s ≤ 1045
unfolding held_in
areas_most s e =
    let p = accepted s e in
    let f = filled (u8_at s 4) (drop 5 s) (accepted_fit s e) in
    omega (arith, bodies_small (held_in s) p.good.sound p.sent, ap length f.same, p.good.eight, length-drop 5 s)
