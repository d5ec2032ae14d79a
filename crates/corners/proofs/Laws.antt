-- One law for every loop: what is left of a list from i on is its element at i and what is left from i + 1 on. Here for the sides of the first n places of an array. Assumes nothing.
use mathlib.Core.Path.{◌≡◌, refl, sym, ap, ◌∙◌}
use Prim.Native.Nat.{ℕ, zero, suc, ◌+◌, ◌%◌, ◌≤◌, ◌<◌}
use native.Mathlib.Nat.{mod-eq_of_lt, mod_self, mod-lt, not-suc-le-zero, le_of_suc-le-suc, eq-or-lt_of_le}
use native.Mathlib.Numerals.{add-one}
use native.Mathlib.Omega.{arith}
use mathlib.Core.Logic.{◌⊎◌, inl, inr}
use mathlib.Core.List.{List, [], ◌∷◌, ◌++◌, zip}
use lib.ListN.{length, get_or, take, drop, length-append, get_or-append, drop_of_length-le}
use lib.Seq.{drop-cons, get_or_at, get_or-take, length-take-le}
use Rattle.corners.specs.Ring.{beside, turned, sides}

module _ {A B : Type 0} where
  pub beside_is_zip : (l : List A) (m : List B) → beside l m ≡ zip l m
  unfolding zip
  beside_is_zip [] m = refl
  beside_is_zip (a ∷ l) [] = refl
  beside_is_zip (a ∷ l) (b ∷ m) = ap (λ (k : List (A × B)). (a, b) ∷ k) (beside_is_zip l m)

  pub length-beside : (l : List A) (m : List B) → length l ≤ length m → length (beside l m) ≡ length l
  length-beside [] m e = refl
  length-beside (a ∷ l) [] e = absurd (not-suc-le-zero e)
  length-beside (a ∷ l) (b ∷ m) e = ap suc (length-beside l m (le_of_suc-le-suc e))

  pub get_d_beside : (l : List A) (m : List B) (i : ℕ) (a : A) (b : B) → i < length l → length l ≤ length m → get_or (beside l m) i (a, b) ≡ (get_or l i a, get_or m i b)
  get_d_beside [] m i a b h e = absurd (not-suc-le-zero h)
  get_d_beside (x ∷ l) [] i a b h e = absurd (not-suc-le-zero e)
  get_d_beside (x ∷ l) (y ∷ m) zero a b h e = refl
  get_d_beside (x ∷ l) (y ∷ m) (suc i) a b h e = get_d_beside l m i a b (le_of_suc-le-suc h) (le_of_suc-le-suc e)

-- the place after i, the first after the last
pub next_less : (i n : ℕ) → i + 1 < n → i + 1 ≡ (i + 1) % n
next_less i n h = sym (mod-eq_of_lt h)

pub next_last : (i n : ℕ) → i < n → n ≤ i + 1 → 0 ≡ (i + 1) % n
next_last i n h k = let e : i + 1 ≡ n = omega arith in rw (e, mod_self)

module _ {A : Type 0} where
  pub left_at : (l : List A) (i : ℕ) (d : A) → i < length l → drop i l ≡ get_or l i d ∷ drop (i + 1) l
  left_at l i d h = rw (add-one, drop-cons l i d)

  -- within a list it does not matter what is read past its end
  pub get_or-within : (l : List A) (i : ℕ) (d e : A) → i < length l → get_or l i d ≡ get_or l i e
  get_or-within [] i d e h = absurd (not-suc-le-zero h)
  get_or-within (a ∷ l) zero d e h = refl
  get_or-within (a ∷ l) (suc i) d e h = get_or-within l i d e (le_of_suc-le-suc h)

  pub length-turned : (l : List A) → length (turned l) ≡ length l
  length-turned [] = refl
  length-turned (a ∷ l) = simp length-append (omega arith)

  last_place : (a : A) (l : List A) (i : ℕ) (d : A) → (i ≡ length l) ⊎ (i < length l) → get_or (l ++ a ∷ []) i d ≡ get_or (a ∷ l) ((i + 1) % suc (length l)) d
  last_place a l i d (inr h) =
      let k : i + 1 < suc (length l) = omega arith in
      rw (mod-eq_of_lt k, add-one) (get_or-append l (a ∷ []) d i h)
  last_place a l i d (inl h) =
      let e : i + 1 ≡ suc (length l) = omega arith in
      let f : length l ≡ i = omega arith in
      rw (e, mod_self) (get_or_at l a [] d i f)

  pub get_or-turned : (l : List A) (i : ℕ) (d : A) → i < length l → get_or (turned l) i d ≡ get_or l ((i + 1) % length l) d
  get_or-turned [] i d h = absurd (not-suc-le-zero h)
  get_or-turned (a ∷ l) i d h = last_place a l i d (eq-or-lt_of_le (le_of_suc-le-suc h))

  pub length-sides : (l : List A) → length (sides l) ≡ length l
  length-sides l = length-beside l (turned l) (omega (arith, length-turned l))

  pub get_or-sides : (l : List A) (i : ℕ) (d : A) → i < length l → get_or (sides l) i (d, d) ≡ (get_or l i d, get_or l ((i + 1) % length l) d)
  get_or-sides l i d h = rw (get_d_beside l (turned l) i d d h (omega (arith, length-turned l)), get_or-turned l i d h)

module _ {A : Type 0} (v : List A) (n : ℕ) (room : n ≤ length v) where
  pub side_is : (i : ℕ) (d : A) → i < n → get_or (sides (take n v)) i (d, d) ≡ (get_or v i d, get_or v ((i + 1) % n) d)
  side_is i d h =
      let e : length (take n v) ≡ n = length-take-le n v room in
      let m : (i + 1) % n < n = mod-lt (i + 1) (omega arith) in
      rw (get_or-sides (take n v) i d (omega arith), e, get_or-take n v i d h, get_or-take n v ((i + 1) % n) d m)

  pub side_count : length (sides (take n v)) ≡ n
  side_count = length-sides (take n v) ∙ length-take-le n v room

  pub side_at : (i : ℕ) (d : A) → i < n → drop i (sides (take n v)) ≡ (get_or v i d, get_or v ((i + 1) % n) d) ∷ drop (i + 1) (sides (take n v))
  side_at i d h = rw (left_at (sides (take n v)) i (d, d) (omega (arith, side_count)), side_is i d h)

  -- a side beside an element of another list
  pub side_beside : {B : Type 0} (m : List B) (i : ℕ) (d : A) (b : B) → n ≤ length m → i < n
      → drop i (beside (sides (take n v)) m) ≡ ((get_or v i d, get_or v ((i + 1) % n) d), get_or m i b) ∷ drop (i + 1) (beside (sides (take n v)) m)
  side_beside m i d b k h =
      let s = sides (take n v) in
      let e : length s ≡ n = side_count in
      let f : length s ≤ length m = omega arith in
      rw (left_at (beside s m) i ((d, d), b) (omega (arith, length-beside s m f)), get_d_beside s m i (d, d) b (omega arith) f, side_is i d h)

  pub side_end : (i : ℕ) → n ≤ i → drop i (sides (take n v)) ≡ []
  side_end i h = drop_of_length-le (sides (take n v)) {i = i} (omega (arith, side_count))

  pub side_beside_end : {B : Type 0} (m : List B) (i : ℕ) → n ≤ length m → n ≤ i → drop i (beside (sides (take n v)) m) ≡ []
  side_beside_end m i k h = drop_of_length-le (beside (sides (take n v)) m) {i = i} (omega (arith, length-beside (sides (take n v)) m (omega (arith, side_count)), side_count))
