-- What callers of the polygon use. Assumes nothing.
use Rattle.std.specs.Prelude.{Result, Ok, Err, ⊤}
use Rattle.std.specs.Result.{result_and}
use lib.Ieee.{Float}
use lib.ListN.{length}
use mathlib.Core.Path.{◌≡◌, refl}
use Prim.Native.Nat.{ℕ, ◌≤◌, ◌<◌}
use native.Mathlib.Omega.{arith}
use mathlib.Core.Bool.{Bool, true, false}
use lib.Dec.{ltb}
use mathlib.Core.List.{List}
use borrow.Author.Tests.{lt-ltb, le-ltb, ltb-true, ltb-false}
use Rattle.types.specs.declared.Point2.{Point2}
use Rattle.corners.specs.Acceptance.{polygon_area, polygon_tests, polygon_fault, judged}
use Rattle.corners.specs.declared.FenceError.{FenceError}

-- a count out of range decides alone, whatever the list
pub too_few : (once : Bool) (n : ℕ) (l : List Point2) → n < 3 → polygon_fault once n l ≡ Err FenceError.TooFewVertices
unfolding polygon_tests
too_few once n l h = rw (lt-ltb n 3 h)

pub too_many : (once : Bool) (n : ℕ) (l : List Point2) → 16 < n → polygon_fault once n l ≡ Err FenceError.TooManyVertices
unfolding polygon_tests
too_many once n l h = let k : 3 ≤ n = omega arith in rw (le-ltb n 3 k, lt-ltb 16 n h)

-- accepted corners are at most sixteen
at_most_16 : (once : Bool) (n : ℕ) (l : List Point2) → polygon_fault once n l ≡ Ok tt → n ≤ 16
at_most_16 once n l h = cases (ltb 16 n) refl where
  cases : (b : Bool) → ltb 16 n ≡ b → n ≤ 16
  cases true e = let f = too_many once n l (ltb-true 16 n e) in absurd (cc)
  cases false e = ltb-false 16 n e

ok_before : {A : Type 0} (v : Result ⊤ FenceError) (a b : A) → result_and v (Ok a) ≡ Ok b → v ≡ Ok tt
ok_before (Ok tt) a b h = refl
ok_before (Err e) a b h = cc

pub judged_fits : (once : Bool) (l : List Point2) (a : Float) → judged once l ≡ Ok a → length l ≤ 16
unfolding judged
judged_fits once l a h = at_most_16 once (length l) l (ok_before (polygon_fault once (length l) l) (polygon_area l) a h)
