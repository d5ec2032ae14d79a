use Prim.Native.Nat.{◌*◌}
use mathlib.Core.Path.{◌≡◌}
use Rattle.options.specs.Options.{zeros}
use Rattle.frame_telemetry.proofs.zero.Given as goal

abbrev pub invariant-loop-i : goal.invariant-loop-i
invariant-loop-i g l = l.zero ≡ zeros l.s l.at (4 * l.i)
