use Rattle.std.specs.Prelude.{ℕ, ◌≡◌, ◌<◌, length, get_or}
use Rattle.wire.specs.Fields.{number_at}
use Rattle.frame_wide.proofs.instants.Given as goal

abbrev pub invariant-loop-k : goal.invariant-loop-k
invariant-loop-k g l = (length l.r ≡ g.row.N) × ((i : ℕ) → i < l.k → get_or l.r i 0 ≡ number_at 8 l.s (get_or l.places i 0))
