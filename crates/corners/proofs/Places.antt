-- The places of an array of 16: as many as a count takes, and what stands past its end. Assumes nothing.
use mathlib.Core.Path.{◌≡◌, ap, ◌∙◌}
use Prim.Native.Nat.{ℕ, zero, suc, min}
use native.Mathlib.Nat.{zero-min, min-zero, suc-min-suc}
use native.Mathlib.Omega.{arith}
use mathlib.Core.List.{List, [], ◌∷◌}
use lib.ListN.{length, take}
use lib.Seq.{length-take-le}
use lib.Ieee.{nan}
use Rattle.types.specs.declared.Point2.{Point2}

module _ {A : Type 0} where
  take_min : (n : ℕ) (l : List A) → take n l ≡ take (min n (length l)) l
  take_min zero l = rw zero-min
  take_min (suc n) [] = rw min-zero
  take_min (suc n) (a ∷ l) = rw suc-min-suc (ap (λ (r : List A). a ∷ r) (take_min n l))

  -- a count past the array takes no more than the array
  pub take-capped : (v : List A) (n : ℕ) → length v ≡ 16 → take n v ≡ take (min n 16) v
  take-capped v n e = rw (take_min n v, e)

  pub length-capped : (v : List A) (n : ℕ) → length v ≡ 16 → length (take n v) ≡ min n 16
  length-capped v n e = ap length (take-capped v n e) ∙ length-take-le (min n 16) v (omega arith)

-- what an array's read gives past its end: never met
abbrev pub nowhere : Point2
nowhere = record { n = nan; e = nan }
