-- `go_onward` meets its contract. Assumes nothing.
use Rattle.std.proofs.Common.{sym, ◌∙◌}
use Rattle.corners.proofs.Places.{nowhere}
use Rattle.rings.specs.Corner.{before}
use Rattle.rings.proofs.Places.{onward_few, onward_back, onward_on}
use Rattle.rings.proofs.go_onward.Goals as goal

pub returns-then-n-lt3 : goal.returns-then-n-lt3
returns-then-n-lt3 c = onward_few before c.args.ring.now c.if-n-lt3.true

pub returns-then-is_before : goal.returns-then-is_before
returns-then-is_before c =
    rw c.reverse.ensures.after (onward_back before c.args.ring.now nowhere c.if-n-lt3.false (sym c.is_before.ensures ∙ c.if-is_before.true))

pub returns-else-is_before : goal.returns-else-is_before
returns-else-is_before c = onward_on before c.args.ring.now nowhere c.if-n-lt3.false (sym c.is_before.ensures ∙ c.if-is_before.false)
