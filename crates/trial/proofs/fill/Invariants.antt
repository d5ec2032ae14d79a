-- The block begins with the first `i` frames, and `after` is the generator after them.
use Rattle.std.proofs.Common.{◌≡◌, ◌*◌, ◌≤◌, ◌++◌, length, drop}
use Rattle.trial.specs.Call.{onward, frames_of}
use Rattle.trial.proofs.fill.Given as goal

abbrev pub invariant-loop-i : goal.invariant-loop-i
invariant-loop-i l =
    (106 * l.n ≤ length l.initial.block) × (length l.block ≡ length l.initial.block) × (l.after ≡ onward l.i l.initial.after) × (l.block ≡ frames_of l.i l.initial.after ++ drop (106 * l.i) l.initial.block)
