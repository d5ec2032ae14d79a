-- `frame_state::timer_valid` meets its contract. Assumes nothing.
use Prim.Native.Nat.{ℕ, ◌+◌}
use mathlib.Core.Path.{◌≡◌, ◌∙◌, sym, ap}
use native.Mathlib.Omega.{arith}
use lib.Dec.{eqb}
use borrow.Author.Tests.{eq-eqb, ne_eqb}
use Rattle.wire.specs.Fields.{u8_at, u32_at}
use Rattle.wire.proofs.Number.{u32_is}
use Rattle.options.specs.Options.{valid_option}
use Rattle.options.proofs.Zeros.{zeros_u32}
use Rattle.frame_state.proofs.timer_valid.Goals as goal

pub returns-then-f-eq0 : goal.returns-then-f-eq0
unfolding valid_option u8_at
returns-then-f-eq0 c =
    let a = c.args in
    let s = a.s.now in
    let one = a.at + 1 in
    let two : one + 1 ≡ a.at + 2 = omega arith in
    let three : one + 2 ≡ a.at + 3 = omega arith in
    let four : one + 3 ≡ a.at + 4 = omega arith in
    let e : c.quad.result ≡ u32_at s one = cc (u32_is s one) in
    simp (eq-eqb (u8_at s a.at) 0 c.if-f-eq0.true)
    (ap (λ (n : ℕ). eqb n 0) e ∙ sym (zeros_u32 s one))

pub returns-else-f-eq0 : goal.returns-else-f-eq0
unfolding valid_option u8_at
returns-else-f-eq0 c =
    let a = c.args in
    simp (ne_eqb (u8_at a.s.now a.at) 0 c.if-f-eq0.false)
