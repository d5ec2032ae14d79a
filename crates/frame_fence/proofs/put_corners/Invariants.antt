use mathlib.Core.Path.{◌≡◌}
use lib.ListN.{take}
use lib.Seq.{sets}
use Rattle.frame_fence.proofs.Bytes.{corner_bytes}
use Rattle.frame_fence.proofs.put_corners.Given as goal

abbrev pub invariant-loop-i : goal.invariant-loop-i
invariant-loop-i l = l.s ≡ sets l.initial.s 13 (corner_bytes (take l.i l.corners))
