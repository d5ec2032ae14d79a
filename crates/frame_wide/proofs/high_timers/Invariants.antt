use Rattle.std.specs.Prelude.{◌≡◌, length}
use Rattle.std.proofs.lemmas.List.Edits.{sets}
use Rattle.frame_wide.specs.Stored.{high_row}
use Rattle.frame_wide.proofs.high_timers.Given as goal

abbrev pub invariant-loop-k : goal.invariant-loop-k
invariant-loop-k l = (length l.to ≡ length l.initial.to) × (l.to ≡ sets l.initial.to 6 (high_row l.s l.given l.k))
