-- Bytes stored over others: what stood there first does not matter. Assumes nothing.
use Prim.Native.Nat.{ℕ, suc, ◌+◌, ◌<◌}
use mathlib.Core.Path.{◌≡◌, ◌∙◌, ap, refl, sym}
use mathlib.Core.List.{List, [], ◌∷◌, ◌++◌, append-nil}
use native.Mathlib.Omega.{arith}
use lib.ListN.{length, set, replicate, length-replicate}
use lib.Seq.{sets, set-set, set_comm}
use Rattle.wire.proofs.Stores.{sets_append}

-- a byte stored after a run of stores further on, or before it
set-sets : (l : List ℕ) (i j x : ℕ) (vs : List ℕ) → i < j → set (sets l j vs) i x ≡ sets (set l i x) j vs
set-sets l i j x [] h = refl
set-sets l i j x (v ∷ vs) h =
    set-sets (set l j v) i (suc j) x vs (omega arith) ∙ ap (λ (m : List ℕ). sets m (suc j) vs) (set_comm l j i v x (λ e. omega arith))

pub over : (l : List ℕ) (i : ℕ) (xs ys r : List ℕ) → length xs ≡ length ys → sets (sets l i (xs ++ r)) i ys ≡ sets l i (ys ++ r)
over l i [] [] r e = refl
over l i [] (y ∷ ys) r e = absurd (omega arith)
over l i (x ∷ xs) [] r e = absurd (omega arith)
over l i (x ∷ xs) (y ∷ ys) r e =
    ap (λ (m : List ℕ). sets m (suc i) ys)
    (set-sets (set l i x) i (suc i) y (xs ++ r) (omega arith) ∙ ap (λ (m : List ℕ). sets m (suc i) (xs ++ r)) (set-set l i x y))
    ∙ over (set l i y) (suc i) xs ys r (omega arith)

-- the same in the middle of a run of stores, after `p` and before `r`
pub over_middle : (l : List ℕ) (i : ℕ) (p xs ys r : List ℕ) → length xs ≡ length ys → sets (sets l i (p ++ (xs ++ r))) (i + length p) ys ≡ sets l i (p ++ (ys ++ r))
over_middle l i p xs ys r e =
    ap (λ (m : List ℕ). sets m (i + length p) ys) (sets_append l i p (xs ++ r))
    ∙ over (sets l i p) (i + length p) xs ys r e
    ∙ sym (sets_append l i p (ys ++ r))

-- as many bytes over others
pub over_all : (l : List ℕ) (i : ℕ) (xs ys : List ℕ) → length xs ≡ length ys → sets (sets l i xs) i ys ≡ sets l i ys
over_all l i xs ys e = ap (λ (b : List ℕ). sets (sets l i b) i ys) (sym (append-nil xs)) ∙ over l i xs ys [] e ∙ ap (sets l i) (append-nil ys)

-- a value that may be absent, stored at i over n bytes of 0 where it is present: the contracts of the calls, and which value it is
module _ {O : Type 0} (bytes : O → List ℕ) (i n : ℕ) where
  pub over_present : {m r : List ℕ} {o p : O} (l : List ℕ) → ((x : O) → length (bytes x) ≡ n) → m ≡ sets l i (replicate n 0) → r ≡ sets m i (bytes p) → o ≡ p → r ≡ sets l i (bytes o)
  over_present {p = p} l h e f k =
      f ∙ ap (λ (x : List ℕ). sets x i (bytes p)) e ∙ over_all l i (replicate n 0) (bytes p) (length-replicate n 0 ∙ sym (h p)) ∙ sym (ap (λ (x : O). sets l i (bytes x)) k)

  pub over_absent : {r : List ℕ} {o p : O} (l : List ℕ) → bytes p ≡ replicate n 0 → r ≡ sets l i (replicate n 0) → o ≡ p → r ≡ sets l i (bytes o)
  over_absent l h e k = e ∙ sym (ap (λ (x : O). sets l i (bytes x)) k ∙ ap (sets l i) h)
