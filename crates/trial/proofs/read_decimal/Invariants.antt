-- The digits that are left, after the number so far, give what the whole gives.
use Rattle.std.specs.Prelude.{Some}
use Rattle.std.proofs.Common.{◌≡◌, drop}
use Rattle.trial.specs.Decimal.{digits_from}
use Rattle.trial.proofs.read_decimal.Given as goal

abbrev pub invariant-loop-c : goal.invariant-loop-c
invariant-loop-c l = digits_from (Some l.n) (drop l.c-index l.s) ≡ digits_from (Some 0) l.s
