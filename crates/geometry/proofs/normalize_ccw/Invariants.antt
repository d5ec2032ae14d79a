-- The places before i are filled, the others are zero.
use Rattle.std.proofs.Common.{◌≡◌, ◌-◌, ◌++◌, take, replicate}
use Rattle.geometry.specs.Polygon.{held_order, zero_point}
use Rattle.geometry.proofs.normalize_ccw.Given as goal

abbrev pub invariant-loop-i : goal.invariant-loop-i
invariant-loop-i l = l.verts ≡ take l.i (held_order l.ccw l.pts) ++ replicate (16 - l.i) zero_point
