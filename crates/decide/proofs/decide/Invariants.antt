use Prim.Native.Nat.{◌≤◌}
use mathlib.Core.Path.{◌≡◌}
use lib.ListN.{length}
use Rattle.decided.specs.Program.{pending, Turns}
use Rattle.decide.proofs.decide.Given as goal

abbrev pub invariant-loop-turn : goal.invariant-loop-turn
invariant-loop-turn g l =
    (length l.input ≡ 131072) × (length l.output ≡ 65536) × (l.k.from ≤ l.k.have) × (l.k.have ≤ length l.input) × Turns 65536 (pending l.k l.input l.held)
