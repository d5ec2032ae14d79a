-- `options::put_option` meets its contract. Assumes nothing.
use Rattle.std.specs.Prelude.{unwrap_or}
use mathlib.Core.Path.{◌∙◌, sym, ap}
use mathlib.Core.List.{◌++◌}
use lib.Seq.{sets}
use Rattle.wire.specs.Fields.{le_flag}
use Rattle.options.specs.Options.{le_option}
use Rattle.wire.proofs.Past.{sets_past}
use Rattle.wire.proofs.Stores.{joined}
use Rattle.options.proofs.put_option.Goals as goal

pub returns-then-at-s : goal.returns-then-at-s
unfolding le_flag
returns-then-at-s g c =
    let a = c.args in
    let some = c.is_some in
    let value = c.unwrap_or in
    joined a.s.now a.at (le_flag some.result) (g.T.Field.bytes value.result) c.put_flag.ensures c.put.ensures
    ∙ (λ j. sets a.s.now a.at (le_flag (some.ensures j) ++ g.T.Field.bytes ((value.ensures ∙ ap (unwrap_or a.o) c.zero.ensures) j)))

pub returns-else-at-s : goal.returns-else-at-s
returns-else-at-s g c = sym (sets_past c.args.s.now c.args.at (le_option g.T.Field.bytes g.T.Field.zero c.args.o) c.if-at-s.false)
