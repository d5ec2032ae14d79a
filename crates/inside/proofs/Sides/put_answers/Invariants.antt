use Rattle.std.proofs.Common.{◌≡◌}
use Rattle.std.proofs.lemmas.List.Edits.{sets}
use Rattle.inside.specs.Inside.{answer}
use Rattle.inside.specs.Call.{answers}
use Rattle.inside.proofs.Sides.put_answers.Given as goal

abbrev pub invariant-loop-k : goal.invariant-loop-k
invariant-loop-k l = l.output ≡ sets l.initial.output 0 (answers (answer l.self) l.points l.k)
