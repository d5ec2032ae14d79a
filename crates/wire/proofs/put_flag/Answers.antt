-- `wire::put_flag` meets its contract. Assumes nothing.
use lib.Seq.{sets}
use mathlib.Core.Bool.{Bool}
use mathlib.Core.Path.{◌∙◌, sym, ap}
use Rattle.wire.specs.Fields.{le_flag, le8}
use Rattle.wire.proofs.put_flag.Goals as goal

pub returns-then-b : goal.returns-then-b
unfolding le_flag le8
returns-then-b c = let a = c.args in
    c.put_u8.ensures ∙ sym (ap (λ (b : Bool). sets a.s.now a.at (le_flag b)) c.if-b.true)

pub returns-else-b : goal.returns-else-b
unfolding le_flag le8
returns-else-b c = let a = c.args in
    c.put_u8-else-b.ensures ∙ sym (ap (λ (b : Bool). sets a.s.now a.at (le_flag b)) c.if-b.false)
