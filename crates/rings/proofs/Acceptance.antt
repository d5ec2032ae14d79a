-- What the tests of a polygon tell: its corners are Accepted. Assumes nothing.
use Rattle.std.specs.Prelude.{Result, Ok, Err, ⊤}
use mathlib.Core.Path.{◌≡◌, refl}
use mathlib.Core.Bool.{Bool, true, false, not, ◌||◌}
use mathlib.Core.List.{List, [], ◌∷◌}
use native.Mathlib.Omega.{arith}
use Prim.Native.Nat.{ℕ}
use lib.Ieee.{lt}
use Rattle.rings.specs.Spelling.{All}
use Rattle.rings.specs.Corner.{Accepted}
use Rattle.corners.specs.Ring.{tails}
use Rattle.std.specs.List.{list_any}
use Rattle.corners.specs.Acceptance.{recurs}
use Rattle.float32.specs.Libm.{is_finite}
use Rattle.float32.specs.Libm.{fabs}
use Rattle.std.specs.Result.{result_and}
use Rattle.corners.specs.Acceptance.{envelope, fault_if, first_fault, corner_fault, polygon_tests, polygon_fault}
use Rattle.types.specs.declared.Point2.{Point2}
use Rattle.corners.specs.declared.FenceError.{FenceError}
use Rattle.rings.proofs.Corner.{Finite}

never : (e : FenceError) → ◌≡◌ {A = Result ⊤ FenceError} (Err e) (Ok tt) → ⊥
never e h = let z : ◌≡◌ {A = ℕ} 0 1 = cc in omega arith

-- every one of the tests is passed where the first fault is none
both : {v w : Result ⊤ FenceError} → result_and v w ≡ Ok tt → (v ≡ Ok tt) × (w ≡ Ok tt)
both {v = Ok tt} h = (refl, h)
both {v = Err e} h = absurd (never e h)

pub first_ok : {A : Type 0} (f : A → Result ⊤ FenceError) (l : List A) → first_fault f l ≡ Ok tt → All (λ a. f a ≡ Ok tt) l
first_ok f [] h = tt
first_ok f (a ∷ l) h = let k = both h in (k.0, first_ok f l k.1)

no_fault : (b : Bool) (e : FenceError) → fault_if b e ≡ Ok tt → b ≡ false
no_fault true e h = absurd (never e h)
no_fault false e h = refl

corner_finite : (p : Point2) → corner_fault p ≡ Ok tt → Finite p
unfolding corner_fault
corner_finite p h = by (is_finite p.n) (is_finite p.e) refl refl h
  where
    rest : Result ⊤ FenceError
    rest = fault_if (lt envelope (fabs p.n) || lt envelope (fabs p.e)) FenceError.OutOfEnvelope

    by : (a b : Bool) → is_finite p.n ≡ a → is_finite p.e ≡ b → result_and (fault_if (not a || not b) FenceError.NonFinite) rest ≡ Ok tt → Finite p
    by true true d e k = (d, e)
    by true false d e k = absurd (never FenceError.NonFinite k)
    by false b d e k = absurd (never FenceError.NonFinite k)

all_finite : (l : List Point2) → All (λ p. corner_fault p ≡ Ok tt) l → All Finite l
all_finite [] h = tt
all_finite (p ∷ l) h = (corner_finite p h.0, all_finite l h.1)

pub accepted : (once : Bool) (n : ℕ) (l : List Point2) → polygon_fault once n l ≡ Ok tt → Accepted l
unfolding polygon_tests
accepted once n l h =
    let t = first_ok (λ v. v) (polygon_tests once n l) h in
    record { finite = all_finite l (first_ok corner_fault l t.1.1.0); apart = no_fault (list_any recurs (tails l)) FenceError.DuplicateVertex t.1.1.1.0 }
