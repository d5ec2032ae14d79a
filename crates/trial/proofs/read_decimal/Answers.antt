-- `trial::read_decimal` meets its contract. Assumes nothing.
use Rattle.std.specs.Prelude.{Option, Some, None}
use Rattle.std.proofs.Common.{◌≡◌, ℕ, suc, get_or, drop, sym, ap, ◌∙◌, add-one, arith}
use Rattle.trial.specs.Decimal.{with_digit, digits_from, read_decimal}
use Rattle.trial.proofs.Digits.{none_stays, digit_next, digits_end}
use Rattle.trial.proofs.read_decimal.Goals as goal

pub returns-in_err-n : goal.returns-in_err-n
unfolding read_decimal
returns-in_err-n c =
    let s = c.args.s.now in
    let l = c.loop-c in
    let digit : with_digit l.n (get_or s l.c-index 0) ≡ None = sym c.with_digit.ensures ∙ c.in_err-n.was in
    rw (← c.is_empty.ensures, c.if-is_empty.false, c.from_residual.ensures)
    (sym (sym l.invariant ∙ digit_next s l.c-index l.n (omega arith) ∙ ap (λ (o : Option ℕ). digits_from o (drop (suc l.c-index) s)) digit ∙ none_stays (drop (suc l.c-index) s)))

pub loop-c-preserved : goal.loop-c-preserved
loop-c-preserved c =
    let s = c.args.s.now in
    let l = c.loop-c in
    let digit : with_digit l.n (get_or s l.c-index 0) ≡ Some c.in_ok-n.n = sym c.with_digit.ensures ∙ c.in_ok-n.was in
    rw add-one (sym (digit_next s l.c-index l.n (omega arith) ∙ ap (λ (o : Option ℕ). digits_from o (drop (suc l.c-index) s)) digit) ∙ l.invariant)

pub returns : goal.returns
unfolding read_decimal
returns c =
    let s = c.args.s.now in
    let l = c.loop-c in
    rw (← c.is_empty.ensures, c.if-is_empty.false) (sym (digits_end s l.c-index l.n (omega arith)) ∙ l.invariant)
