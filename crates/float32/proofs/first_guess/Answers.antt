-- `float32::first_guess` meets its contract, by the parity of the exponent. Assumes nothing.
use mathlib.Core.Path.{refl, subst}
use Prim.Native.Nat.{ℕ, ◌+◌, ◌*◌, ◌/◌, ◌%◌, ◌^◌}
use Rattle.float32.proofs.Round.{doubled, single}
use Rattle.float32.proofs.Guess.{Guessed, single_guess, double_guess}
use native.Mathlib.Omega.{arith}
use Rattle.float32.proofs.first_guess.Goals as goal

pub returns-then-t-lt8388608 : goal.returns-then-t-lt8388608
returns-then-t-lt8388608 c =
    let b = c.args.b in
    subst (λ (m : ℕ). Guessed m ((5 * (b % 2 ^ 24) + 45880 * 2048) / 16384)) (doubled b c.if-t-lt8388608.true) (double_guess (b % 2 ^ 24) _ c.if-t-lt8388608.true refl)

pub returns-else-t-lt8388608 : goal.returns-else-t-lt8388608
returns-else-t-lt8388608 c =
    let b = c.args.b in
    subst (λ (m : ℕ). Guessed m ((3 * (b % 2 ^ 24) + 21175 * 2048) / 16384)) (single b c.if-t-lt8388608.false) (single_guess (b % 2 ^ 24) _ c.if-t-lt8388608.false (omega arith) refl)
