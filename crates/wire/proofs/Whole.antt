-- A list of known length as its elements, and the tests of a row, one by one. At a numeral n, `elements_from` computes to n elements, so that what stands
-- at a place can be compared element by element. Assumes nothing.
use Prim.Native.Nat.{ℕ, zero, suc, ◌+◌, ◌≤◌}
use mathlib.Core.Path.{◌≡◌, ◌∙◌, ap, refl, sym}
use mathlib.Core.List.{List, [], ◌∷◌, ◌++◌}
use mathlib.Core.Bool.{Bool, true, false, ◌&&◌, false≢true}
use mathlib.Core.Logic.{◌⊎◌, ⊎_elim}
use native.Mathlib.Numerals.{add-one}
use native.Mathlib.Nat.{zero-add, add-zero, suc-add}
use native.Mathlib.Omega.{arith}
use lib.ListN.{length, get_or, take, drop}
use lib.Seq.{drop-cons, take_all}
use Rattle.wire.specs.Fields.{elements_from}
use Rattle.wire.specs.Frame.{all_true}

module _ {A : Type 0} (d : A) where
  pub elements_append : (l : List A) (i m n : ℕ) → elements_from d l i (m + n) ≡ elements_from d l i m ++ elements_from d l (i + m) n
  elements_append l i zero n = λ j. elements_from d l (sym (add-zero i) j) (zero-add n j)
  elements_append l i (suc m) n =
      let e : i + 1 + m ≡ i + suc m = omega arith in
      ap (elements_from d l i) (suc-add m n)
      ∙ ap (λ (r : List A). get_or l i d ∷ r) (elements_append l (i + 1) m n ∙ ap (λ (k : ℕ). elements_from d l (i + 1) m ++ elements_from d l k n) e)

  elements_take : (l : List A) (i n : ℕ) → i + n ≤ length l → elements_from d l i n ≡ take n (drop i l)
  elements_take l i zero h = refl
  elements_take l i (suc n) h =
      ap (λ (r : List A). get_or l i d ∷ r) (elements_take l (i + 1) n (omega arith) ∙ ap (λ (k : ℕ). take n (drop k l)) (add-one i))
      ∙ ap (take (suc n)) (sym (drop-cons l i d (omega arith)))

  pub whole : (n : ℕ) (l : List A) → length l ≡ n → elements_from d l 0 n ≡ l
  whole n l e = elements_take l 0 n (omega arith) ∙ take_all n l (omega arith)

-- both parts of a test that holds
pub first : (a b : Bool) → (a && b) ≡ true → a ≡ true
first true b e = refl
first false b e = e

pub second : (a b : Bool) → (a && b) ≡ true → b ≡ true
second true b e = e
second false b e = absurd (false≢true e)

-- every test of a row that holds
abbrev pub Each : List Bool → Type 0
Each [] = Unit {0}
Each (t ∷ ts) = (t ≡ true) × Each ts

pub each : (b : Bool) (ts : List Bool) → all_true b ts ≡ true → (b ≡ true) × Each ts
each b [] e = (e, tt)
each b (t ∷ ts) e = let r = each (b && t) ts e in (first b t r.0, (second b t r.0, r.1))

-- a row of tests, each made only where those before it held
pub data Tested : Bool → List Bool → Bool → Type 0 where
  done : {p : Bool} → Tested p [] p
  next : {p q v : Bool} {ts : List Bool} (r : Bool) → r ≡ (p && q) → Tested r ts v → Tested p (q ∷ ts) v

pub tested : (p : Bool) (ts : List Bool) (v : Bool) → Tested p ts v → v ≡ all_true p ts
tested p [] v done = refl
tested p (q ∷ ts) v (next r e rest) = tested r ts v rest ∙ ap (λ (b : Bool). all_true b ts) e

-- `p` held and the next test gave `r`, or `p` failed and `r` is `p`
pub joins : {T E : Type 0} {p q r : Bool} → T ⊎ E → (T → (p ≡ true) × (r ≡ q)) → (E → (p ≡ false) × (r ≡ p)) → r ≡ (p && q)
joins {q = q} came t e =
    ⊎_elim (λ w. (t w).1 ∙ sym (ap (λ (b : Bool). b && q) (t w).0)) (λ w. (e w).1 ∙ (e w).0 ∙ sym (ap (λ (b : Bool). b && q) (e w).0)) came
