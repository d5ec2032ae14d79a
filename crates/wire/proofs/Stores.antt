-- A run of stores, one after the other, each of some bytes at a place: what a function leaves that calls `put_..` again and again.
-- `into` takes one call's contract; nested, it takes a whole run's. Assumes nothing.
use Prim.Native.Nat.{ℕ, suc, ◌+◌, ◌≤◌}
use native.Mathlib.Omega.{arith}
use native.Mathlib.Nat.{add-zero, zero-add, add-suc, suc-add}
use lib.ListN.{length, set, drop}
use mathlib.Core.Path.{◌≡◌, ◌∙◌, ap, refl, sym}
use mathlib.Core.List.{List, [], ◌∷◌, ◌++◌}
use lib.Seq.{sets, sets-eq}

pub data Piece : Type 0 where
  put : ℕ → List ℕ → Piece

abbrev pub after : List ℕ → List Piece → List ℕ
after m [] = m
after m (put n b ∷ ps) = after (sets m n b) ps

pub data Run : List ℕ → List Piece → List ℕ → Type 0 where
  done : {m : List ℕ} → Run m [] m
  into : {m m' r : List ℕ} {n : ℕ} {b : List ℕ} {ps : List Piece} → m' ≡ sets m n b → Run m' ps r → Run m (put n b ∷ ps) r

pub ran : (m : List ℕ) (ps : List Piece) (r : List ℕ) → Run m ps r → r ≡ after m ps
ran m [] r done = refl
ran m (put n b ∷ ps) r (into {m' = m'} e rest) = ran m' ps r rest ∙ ap (λ (l : List ℕ). after l ps) e

-- two stores in a row are one
pub sets_append : (l : List ℕ) (i : ℕ) (xs ys : List ℕ) → sets l i (xs ++ ys) ≡ sets (sets l i xs) (i + length xs) ys
sets_append l i [] ys = ap (λ (k : ℕ). sets l k ys) (sym (add-zero i))
sets_append l i (x ∷ xs) ys =
    sets_append (set l i x) (suc i) xs ys
    ∙ ap (λ (k : ℕ). sets (sets (set l i x) (suc i) xs) k ys) (suc-add i (length xs) ∙ sym (add-suc i (length xs)))

-- the same for the contracts of two calls
pub joined : {m r : List ℕ} (l : List ℕ) (i : ℕ) (xs ys : List ℕ) → m ≡ sets l i xs → r ≡ sets m (i + length xs) ys → r ≡ sets l i (xs ++ ys)
joined l i xs ys e f = f ∙ ap (λ (k : List ℕ). sets k (i + length xs) ys) e ∙ sym (sets_append l i xs ys)

-- a frame stored at the start of a slice with room: the frame, and later bytes as they were
pub stored : (l f : List ℕ) → length f ≤ length l → sets l 0 f ≡ f ++ drop (length f) l
stored l f h = sets-eq f l 0 (omega arith) ∙ ap (λ (n : ℕ). f ++ drop n l) (zero-add (length f))
