-- One instant in four bytes: behind its flag f, the given number g, or m where it is not there. Assumes nothing.
use Prim.Native.Nat.{ℕ, zero, suc, ◌^◌, ◌<◌}
use mathlib.Core.Path.{◌≡◌, ◌∙◌, ap, refl, sym}
use mathlib.Core.Bool.{Bool, true, false, cond}
use native.Mathlib.Omega.{arith}
use lib.Dec.{eqb}
use borrow.Author.Tests.{ne_eqb}
use Rattle.wire.specs.Fields.{u32_at, le32}
use Rattle.wire.proofs.Fields.{u32_back}

-- a test of it looks at the number only where it is not there
abbrev pub test_of : (ℕ → Bool) → ℕ → ℕ → ℕ → Bool
test_of z f g m = cond (eqb f 0) (z (cond (eqb f 1) g m)) (eqb f 1)

pub test_on : (z : ℕ → Bool) (f g m : ℕ) → test_of z f g m ≡ test_of z f 0 m
test_on z zero g m = refl
test_on z (suc zero) g m = refl
test_on z (suc (suc n)) g m =
    let p = ne_eqb (suc (suc n)) 0 (λ e. omega arith) in
    let r = ne_eqb (suc (suc n)) 1 (λ e. omega arith) in
    simp (p, r)

-- a value that is read with it, at the number where it is there
abbrev pub value_of : {O : Type 0} → (ℕ → O) → O → ℕ → ℕ → ℕ → O
value_of some none f g m = cond (eqb f 1) (some (u32_at (le32 (cond (eqb f 1) g m)) 0)) none

pub value_on :
    {O : Type 0} (some : ℕ → O) (none : O) (at : O → O) (f g m : ℕ) → g < 2 ^ 32 → ((u : ℕ) → at (some u) ≡ some g) → at none ≡ none →
    value_of some none f g m ≡ at (value_of some none f 0 m)
value_on {O} some none at f g m h p q = go (eqb f 1)
  where
    go : (b : Bool) → cond b (some (u32_at (le32 (cond b g m)) 0)) none ≡ at (cond b (some (u32_at (le32 (cond b 0 m)) 0)) none)
    go true = ap some (u32_back g h) ∙ sym (p (u32_at (le32 0) 0))
    go false = sym q
