-- `frame_decision::slot_valid` meets its contract: by cases on the first byte. Assumes nothing.
use Prim.Native.Nat.{ℕ, zero, suc, ◌+◌}
use mathlib.Core.Path.{◌≡◌, ◌∙◌, ap, refl, sym}
use mathlib.Core.List.{List}
use mathlib.Core.Bool.{Bool, true, false, cond, ◌&&◌}
use native.Mathlib.Omega.{arith}
use lib.Dec.{eqb, ltb}
use borrow.Author.Tests.{ne_eqb}
use Rattle.wire.specs.Fields.{u8_at, u16_at, byte_below}
use Rattle.options.specs.Options.{zeros, valid_option}
use Rattle.options.proofs.Zeros.{zeros_number}
use Rattle.frame_decision.specs.Slots.{slot_valid}
use Rattle.frame_decision.proofs.slot_valid.Goals as goal

-- two bytes of 0 are a reason and an action
in_range : (y z : ℕ) → ((eqb y 0 && (eqb z 0 && true)) && ltb y 19 && ltb z 5) ≡ (eqb y 0 && (eqb z 0 && true))
in_range zero zero = refl
in_range zero (suc z) = simp (ne_eqb (suc z) 0 (λ h. omega arith))
in_range (suc y) z = simp (ne_eqb (suc y) 0 (λ h. omega arith))

module _ (s : List ℕ) (i : ℕ) where
  -- the test of a slot whose first byte is x
  given : ℕ → Bool
  given x = cond (eqb x 0) (zeros s (i + 1) 2) (eqb x 1) && byte_below s (i + 1) 19 && byte_below s (i + 2) 5

  absent : u8_at s i ≡ 0 → slot_valid s i ≡ eqb (u16_at s (i + 1)) 0
  unfolding slot_valid valid_option given zeros byte_below u16_at
  absent e =
      let two : i + 1 + 1 ≡ i + 2 = omega arith in
      let y = u8_at s (i + 1) in
      ap given e
      ∙ ap (λ (k : ℕ). (eqb y 0 && (eqb (u8_at s k) 0 && true)) && ltb y 19 && ltb (u8_at s (i + 2)) 5) two
      ∙ in_range y (u8_at s (i + 2))
      ∙ ap (λ (k : ℕ). eqb y 0 && (eqb (u8_at s k) 0 && true)) (sym two)
      ∙ sym (zeros_number 2 s (i + 1))

  present : u8_at s i ≡ 1 → slot_valid s i ≡ (byte_below s (i + 1) 19 && byte_below s (i + 2) 5)
  unfolding slot_valid valid_option given
  present e = ap given e

  neither : (u8_at s i ≡ 0 → ⊥) → (u8_at s i ≡ 1 → ⊥) → slot_valid s i ≡ false
  unfolding slot_valid valid_option
  neither p q = simp (ne_eqb (u8_at s i) 0 p, ne_eqb (u8_at s i) 1 q)

pub returns-in-0 : goal.returns-in-0
returns-in-0 c =
    let a = c.args in
    let s = a.s.now in
    let e : c.u8_at.result ≡ u8_at s a.at = c.u8_at.ensures ∙ ap (u8_at s) c.from-at.ensures in
    ap (λ (n : ℕ). eqb n 0) (c.u16_at.ensures ∙ (λ j. u16_at s (c.from-at.ensures j + 1))) ∙ sym (absent s a.at (sym e ∙ c.in-0.is))

pub returns-in-1 : goal.returns-in-1
returns-in-1 c =
    let a = c.args in
    let s = a.s.now in
    let e : c.u8_at.result ≡ u8_at s a.at = c.u8_at.ensures ∙ ap (u8_at s) c.from-at.ensures in
    (λ j. c.byte_below.ensures j && c.byte_below-in-1.ensures j)
    ∙ (λ j. byte_below s (c.from-at.ensures j + 1) 19 && byte_below s (c.from-at.ensures j + 2) 5)
    ∙ sym (present s a.at (sym e ∙ c.in-1.is))

pub returns-in_default : goal.returns-in_default
returns-in_default c =
    let a = c.args in
    let e : c.u8_at.result ≡ u8_at a.s.now a.at = c.u8_at.ensures ∙ ap (u8_at a.s.now) c.from-at.ensures in
    sym (neither a.s.now a.at (λ h. omega (arith, e)) (λ h. omega (arith, e)))
