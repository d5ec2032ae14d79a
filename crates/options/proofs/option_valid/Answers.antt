-- `options::option_valid` meets its contract. Assumes nothing.
use mathlib.Core.Path.{◌∙◌, sym, ap}
use Rattle.wire.specs.Fields.{u8_at}
use Rattle.options.specs.Options.{valid_option, zeros}
use Prim.Native.Nat.{◌+◌}
use borrow.Author.Tests.{eq-eqb, ne_eqb}
use native.Mathlib.Omega.{arith}
use Rattle.wire.proofs.Past.{u8_past}
use Rattle.options.proofs.Zeros.{zeros_past}
use Rattle.options.proofs.Zeros.{zeros_clipped}
use Rattle.options.proofs.option_valid.Goals as goal

pub returns-then-f-eq0 : goal.returns-then-f-eq0
unfolding valid_option u8_at
returns-then-f-eq0 c =
    let a = c.args in
    let s = a.s.now in
    simp (eq-eqb (u8_at s a.at) 0 c.if-f-eq0.true)
    (c.zero_words.ensures ∙ ap (zeros s (a.at + 1)) c.min.ensures ∙ zeros_clipped s (a.at + 1) a.n (omega arith))

pub returns-else-f-eq0 : goal.returns-else-f-eq0
unfolding valid_option u8_at
returns-else-f-eq0 c =
    let a = c.args in
    simp (ne_eqb (u8_at a.s.now a.at) 0 c.if-f-eq0.false)

pub returns-else-at-s : goal.returns-else-at-s
unfolding valid_option
returns-else-at-s c =
    let a = c.args in
    let s = a.s.now in
    simp (eq-eqb (u8_at s a.at) 0 (u8_past s a.at c.if-at-s.false)) (sym (zeros_past s (a.at + 1) a.n (omega arith)))
