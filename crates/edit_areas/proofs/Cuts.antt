-- The areas held, cut for an edit, as lists and as bytes. Assumes nothing.
use Prim.Native.Nat.{ℕ, ◌+◌, ◌≤◌, ◌<◌, min}
use native.Mathlib.Omega.{arith}
use mathlib.Core.Path.{◌≡◌, refl, sym, ap, ◌∙◌}
use mathlib.Core.Bool.{Bool, true, false, ◌||◌, cond}
use mathlib.Core.List.{List, [], ◌∷◌, ◌++◌, append_assoc}
use lib.Dec.{ltb, eqb}
use lib.ListN.{length, length-append}
use borrow.Author.Tests.{ltb-true, ltb-false, eqb-true, eqb-false, lt-ltb, le-ltb, eq-eqb, ne_eqb}
use Rattle.areas.specs.Held.{All, Rising, holds, place, without}
use Rattle.areas.proofs.Lists.{or_false, all_map}
use Rattle.frame_areas.specs.AreaFrame.{Sent, body_of}
use Rattle.frame_areas.specs.AreasFrame.{held_in, bodies_of}
use Rattle.std.specs.Prelude.{Result, Ok, Err}
use Rattle.std.specs.Result.{is_ok}
use Rattle.edit_areas.specs.Cut.{below, onward, first_is, cut_at, place_of}

-- ---- lists
pub split : (n : ℕ) (l : List Sent) → below n l ++ onward n l ≡ l
unfolding below onward
split n [] = refl
split n (a ∷ l) = by (ltb a.number n) (split n l)
  where
    by : (t : Bool) → below n l ++ onward n l ≡ l → cond t (a ∷ below n l) [] ++ cond t (onward n l) (a ∷ l) ≡ a ∷ l
    by true e = ap (λ (m : List Sent). a ∷ m) e
    by false e = refl

-- an area of a number that is not held goes in at the cut
pub placed : (a : Sent) (l : List Sent) → holds a.number l ≡ false → place a l ≡ below a.number l ++ a ∷ onward a.number l
unfolding below onward
placed a [] e = refl
placed a (b ∷ l) e = by (ltb b.number a.number) refl (placed a l both.1)
  where
    both : (eqb a.number b.number ≡ false) × (holds a.number l ≡ false)
    both = or_false (eqb a.number b.number) (holds a.number l) e

    lower : a.number ≤ b.number → (a.number ≡ b.number → ⊥) → a.number < b.number
    lower p q = omega arith

    by : (t : Bool) → ltb b.number a.number ≡ t → place a l ≡ below a.number l ++ a ∷ onward a.number l
        → place a (b ∷ l) ≡ cond t (b ∷ below a.number l) [] ++ a ∷ cond t (onward a.number l) (b ∷ l)
    by true h k = rw (le-ltb a.number b.number (omega (arith, ltb-true b.number a.number h))) (ap (λ (m : List Sent). b ∷ m) k)
    by false h k = rw (lt-ltb a.number b.number (lower (ltb-false _ _ h) (eqb-false _ _ both.0)))

none : (n : ℕ) (l : List Sent) → All (λ b. n < b.number) l → holds n l ≡ false
none n [] p = refl
none n (b ∷ l) p = rw (ne_eqb n b.number (λ h. omega (arith, p.0))) (none n l p.1)

none_out : (n : ℕ) (l : List Sent) → All (λ b. n < b.number) l → without n l ≡ l
none_out n [] p = refl
none_out n (b ∷ l) p = rw (ne_eqb n b.number (λ h. omega (arith, p.0))) (ap (λ (m : List Sent). b ∷ m) (none_out n l p.1))

turned : (m n : ℕ) → eqb m n ≡ eqb n m
turned m n = by (eqb n m) refl
  where
    by : (t : Bool) → eqb n m ≡ t → eqb m n ≡ t
    by true h = eq-eqb m n (sym (eqb-true n m h))
    by false h = ne_eqb m n (λ e. eqb-false n m h (sym e))

-- a number is held where the first behind the cut has it
pub found : (n : ℕ) (l : List Sent) → Rising l → first_is n (onward n l) ≡ holds n l
unfolding onward
found n [] s = refl
found n (b ∷ l) s = by (ltb b.number n) refl (found n l s.1)
  where
    by : (t : Bool) → ltb b.number n ≡ t → first_is n (onward n l) ≡ holds n l → first_is n (cond t (onward n l) (b ∷ l)) ≡ eqb n b.number || holds n l
    by true h k = rw (ne_eqb n b.number (λ e. omega (arith, ltb-true b.number n h))) k
    by false h k =
        let le : n ≤ b.number = ltb-false _ _ h in
        rw (none n l (all_map _ _ (λ x q. omega (arith, le, q)) l s.0)) (turned b.number n ∙ sym (or_none (eqb n b.number)))
      where
        or_none : (t : Bool) → t || false ≡ t
        or_none true = refl
        or_none false = refl

abbrev pub behind : List Sent → List Sent
behind [] = []
behind (a ∷ l) = l

-- the area of that number comes out behind the cut
pub taken_out : (n : ℕ) (l : List Sent) → Rising l → first_is n (onward n l) ≡ true → without n l ≡ below n l ++ behind (onward n l)
unfolding below onward
taken_out n [] s e = refl
taken_out n (b ∷ l) s e = by (ltb b.number n) refl e (taken_out n l s.1)
  where
    by : (t : Bool) → ltb b.number n ≡ t → first_is n (cond t (onward n l) (b ∷ l)) ≡ true → (first_is n (onward n l) ≡ true → without n l ≡ below n l ++ behind (onward n l))
        → without n (b ∷ l) ≡ cond t (b ∷ below n l) [] ++ behind (cond t (onward n l) (b ∷ l))
    by true h k next = rw (ne_eqb n b.number (λ e. omega (arith, ltb-true b.number n h))) (ap (λ (m : List Sent). b ∷ m) (next k))
    by false h k next =
        let same : b.number ≡ n = eqb-true _ _ k in
        rw (eq-eqb n b.number (sym same)) (none_out n l (all_map _ _ (λ x q. omega (arith, same, q)) l s.0))

-- ---- bytes
pub bodies_append : (l m : List Sent) → bodies_of (l ++ m) ≡ bodies_of l ++ bodies_of m
unfolding bodies_of
bodies_append [] m = refl
bodies_append (a ∷ l) m = ap (λ (r : List ℕ). body_of a ++ r) (bodies_append l m) ∙ sym (append_assoc (body_of a) (bodies_of l) (bodies_of m))

-- ---- the loop that finds the cut
-- of some areas, the first of which begins at a byte
abbrev pub place_from : ℕ → ℕ → List Sent → Result ℕ ℕ
place_from at n [] = Err at
place_from at n (a ∷ l) = cond (ltb a.number n) (place_from (at + length (body_of a)) n l) (cond (eqb a.number n) (Ok at) (Err at))

abbrev placed_at : Bool → ℕ → Result ℕ ℕ
placed_at b at = cond b (Ok at) (Err at)

found_from : (at n : ℕ) (l : List Sent) → place_from at n l ≡ placed_at (first_is n (onward n l)) (at + length (bodies_of (below n l)))
unfolding below onward bodies_of
found_from at n [] = let e : at + 0 ≡ at = omega arith in rw e
found_from at n (a ∷ l) = by (ltb a.number n) (found_from (at + length (body_of a)) n l)
  where
    by : (t : Bool) → place_from (at + length (body_of a)) n l ≡ placed_at (first_is n (onward n l)) (at + length (body_of a) + length (bodies_of (below n l)))
        → cond t (place_from (at + length (body_of a)) n l) (placed_at (eqb a.number n) at)
        ≡ placed_at (first_is n (cond t (onward n l) (a ∷ l))) (at + length (bodies_of (cond t (a ∷ below n l) [])))
    by true h =
        let e : at + length (body_of a) + length (bodies_of (below n l)) ≡ at + length (body_of a ++ bodies_of (below n l)) = omega (arith, length-append a.corners (bodies_of (below n l))) in
        h ∙ ap (placed_at (first_is n (onward n l))) e
    by false h = let e : at + 0 ≡ at = omega arith in rw e

pub starts : (s : List ℕ) (n : ℕ) → place_from (min (length s) 5) n (held_in s) ≡ place_of s n
unfolding cut_at place_of
starts s n = found_from (min (length s) 5) n (held_in s)

-- the first of those left is passed
pub passes : (at n size : ℕ) (a : Sent) (l : List Sent) (x : Result ℕ ℕ) → place_from at n (a ∷ l) ≡ x → a.number < n → size ≡ length (body_of a) → place_from (at + size) n l ≡ x
passes at n size a l x h k e = rw e (rw (lt-ltb a.number n k) at h)

-- or it is where the number is, or would be
pub halts : (at n : ℕ) (a : Sent) (l : List Sent) (x : Result ℕ ℕ) → place_from at n (a ∷ l) ≡ x → n ≤ a.number → placed_at (eqb a.number n) at ≡ x
halts at n a l x h k = rw (le-ltb a.number n k) at h

-- ---- a place tells whether the number is held, and the byte
module _ (s : List ℕ) (n : ℕ) where
  told : (b : Bool) (x : ℕ) → is_ok (placed_at b x) ≡ b
  told true x = refl
  told false x = refl

  pub place_ok : is_ok (place_of s n) ≡ first_is n (onward n (held_in s))
  unfolding place_of
  place_ok = told (first_is n (onward n (held_in s))) (cut_at s n)

  pub at_ok : (at : ℕ) → place_of s n ≡ Ok at → (first_is n (onward n (held_in s)) ≡ true) × (at ≡ cut_at s n)
  unfolding place_of
  at_ok at h = by (first_is n (onward n (held_in s))) h
    where
      by : (b : Bool) → placed_at b (cut_at s n) ≡ Ok at → (b ≡ true) × (at ≡ cut_at s n)
      by true h = (refl, cc)
      by false h = cc

  pub at_err : (at : ℕ) → place_of s n ≡ Err at → at ≡ cut_at s n
  unfolding place_of
  at_err at h = by (first_is n (onward n (held_in s))) h
    where
      by : (b : Bool) → placed_at b (cut_at s n) ≡ Err at → at ≡ cut_at s n
      by true h = cc
      by false h = cc
