use Prim.Native.Nat.{◌+◌, ◌-◌, ◌*◌}
use mathlib.Core.Path.{◌≡◌}
use mathlib.Core.Bool.{◌&&◌}
use Rattle.options.specs.Options.{zeros}
use Rattle.options.proofs.zero_words.Given as goal

abbrev pub invariant-loop-i : goal.invariant-loop-i
invariant-loop-i l = zeros l.s l.at l.n ≡ (l.zero && zeros l.s (l.at + 4 * l.i) (l.n - 4 * l.i))
