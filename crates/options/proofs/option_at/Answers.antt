-- `options::option_at` meets its contract. Assumes nothing.
use Rattle.std.specs.Prelude.{Some}
use mathlib.Core.Path.{◌∙◌, sym}
use native.Mathlib.Omega.{arith}
use Rattle.wire.proofs.Past.{flag_inside}
use Rattle.options.proofs.option_at.Goals as goal

pub overflow_add-at : goal.overflow_add-at
overflow_add-at g c = omega (arith, flag_inside c.args.s.now c.args.at (sym c.flag_at.ensures ∙ c.if-flag_at.true))

pub returns-then-flag_at : goal.returns-then-flag_at
returns-then-flag_at g c = simp (sym c.flag_at.ensures ∙ c.if-flag_at.true) (λ j. Some (c.read.ensures j))

pub returns-else-flag_at : goal.returns-else-flag_at
returns-else-flag_at g c = simp (sym c.flag_at.ensures ∙ c.if-flag_at.false)
