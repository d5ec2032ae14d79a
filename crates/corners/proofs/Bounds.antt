-- A float between −b and b, for a number b above zero: by two comparisons, and by its size. Assumes nothing.
use mathlib.Core.Path.{◌≡◌, refl, sym, ◌∙◌}
use Prim.Native.Nat.{ℕ, ◌+◌, ◌*◌, ◌<◌}
use native.Mathlib.Nat.{mul-pos, eq-or-lt_of_le}
use native.Mathlib.Omega.{arith}
use mathlib.Core.Logic.{inl, inr}
use mathlib.Core.Bool.{Bool, true, false, not, ◌&&◌, ◌||◌, cond}
use lib.Dec.{ltb, lit<}
use lib.IntN.{ℤ}
use borrow.Author.Tests.{lt-ltb, le-ltb, ltb-true, ltb-false, eqb-true, eqb-false}
use lib.Ieee.{Float, nan, inf, fin, of_bits, neg, lt, le, eq, up, down}
use lib.Ieee.Fits.{up_pos, down_pos}
use Rattle.std.specs.Prelude.{Ok, Err}
use Rattle.types.specs.declared.Point2.{Point2}
use Rattle.float32.specs.Libm.{is_finite, fabs}
use Rattle.std.specs.Result.{result_and}
use Rattle.corners.specs.Acceptance.{envelope, fault_if, corner_fault}
use Rattle.corners.specs.Round.{within}
use Rattle.corners.specs.declared.FenceError.{FenceError}

and_true : (b : Bool) → (b && true) ≡ b
and_true true = refl
and_true false = refl

-- of two numbers: at most, and not above
at_most : (a b : ℕ) (y : Bool) → (y ≡ true → a ≡ b) → (y ≡ false → a ≡ b → ⊥) → (ltb a b || y && true) ≡ not (ltb b a)
at_most a b y t f = cases (ltb a b) y refl refl where
  cases : (x z : Bool) → ltb a b ≡ x → y ≡ z → (x || z && true) ≡ not (ltb b a)
  cases true z h k = let g = ltb-true a b h in rw (le-ltb b a (omega arith))
  cases false true h k = let g = t k in rw (le-ltb b a (omega arith))
  cases false false h k = elim (eq-or-lt_of_le (ltb-false a b h)) [ inl e ↦ absurd (f k (sym e)) | inr o ↦ rw (lt-ltb b a o) ]

module _ (p : ℕ) (q : ℤ) (some : 0 < p) where
  above_zero : (e : ℤ) → 0 < p * up q * down e
  above_zero e = mul-pos (mul-pos some (up_pos q)) (down_pos e)

  pub size_below : (x : Float) → (lt x (fin false p q) && lt (fin true p q) x) ≡ lt (fabs x) (fin false p q)
  unfolding lt fabs
  size_below nan = refl
  size_below (inf true) = refl
  size_below (inf false) = refl
  size_below (fin false m e) = rw (lt-ltb 0 (p * up q * down e + m * up e * down q) (omega (arith, above_zero e))) (and_true _)
  size_below (fin true m e) = rw (lt-ltb 0 (m * up e * down q + p * up q * down e) (omega (arith, above_zero e)))

  pub size_within : (x : Float) → (le x (fin false p q) && le (fin true p q) x) ≡ (is_finite x && not (lt (fin false p q) (fabs x)))
  unfolding le lt eq fabs is_finite
  size_within nan = refl
  size_within (inf true) = refl
  size_within (inf false) = refl
  size_within (fin false m e) = rw (lt-ltb 0 (p * up q * down e + m * up e * down q) (omega (arith, above_zero e))) (and_true _ ∙ at_most (m * up e * down q) (p * up q * down e) _ (eqb-true _ _) (eqb-false _ _))
  size_within (fin true m e) = rw (lt-ltb 0 (m * up e * down q + p * up q * down e) (omega (arith, above_zero e))) (at_most (m * up e * down q) (p * up q * down e) _ (λ g. sym (eqb-true _ _ g)) (λ g k. eqb-false _ _ g (sym k)))

by_tests : (a b c d : Bool) → cond ((a && not b) && (c && not d)) (Ok tt) (cond (a && c) (Err FenceError.OutOfEnvelope) (Err FenceError.NonFinite))
    ≡ result_and (fault_if (not a || not c) FenceError.NonFinite) (fault_if (b || d) FenceError.OutOfEnvelope)
by_tests false b c d = refl
by_tests true true false d = refl
by_tests true true true d = refl
by_tests true false false d = refl
by_tests true false true true = refl
by_tests true false true false = refl

-- the fault of a corner, by the code's tests
pub corner_tests : (p : Point2) → cond (within p.n && within p.e) (Ok tt) (cond (is_finite p.n && is_finite p.e) (Err FenceError.OutOfEnvelope) (Err FenceError.NonFinite)) ≡ corner_fault p
unfolding corner_fault of_bits neg
corner_tests p =
    rw (size_within _ _ (lit< tt) p.n, size_within _ _ (lit< tt) p.e)
    (by_tests (is_finite p.n) (lt envelope (fabs p.n)) (is_finite p.e) (lt envelope (fabs p.e)))
