use Prim.Native.Nat.{◌-◌}
use mathlib.Core.Path.{◌≡◌}
use mathlib.Core.List.{◌++◌}
use lib.ListN.{take, replicate}
use Rattle.geometry.specs.Polygon.{zero_point}
use Rattle.frame_fence.specs.FenceFrame.{corners_at}
use Rattle.frame_fence.proofs.corners_at.Given as goal

abbrev pub invariant-loop-i : goal.invariant-loop-i
invariant-loop-i l = l.corners ≡ take l.i (corners_at l.s l.at l.n) ++ replicate (16 - l.i) zero_point
