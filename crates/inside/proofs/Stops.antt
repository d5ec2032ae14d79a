-- Stopping at the first element that meets a test: by its place, after those that another test lets through, and of a ring's own sides. Assumes nothing.
use Prim.Native.Nat.{ℕ, suc, ◌+◌, ◌≤◌}
use native.Mathlib.Nat.{zero-add, add-zero}
use native.Mathlib.Omega.{arith}
use mathlib.Core.Path.{◌≡◌, ◌∙◌, refl, sym, ap}
use mathlib.Core.Bool.{Bool, true, false, not, ◌||◌, cond}
use mathlib.Core.List.{List, [], ◌∷◌, map}
use lib.Dec.{ltb, leb-suc-suc}
use lib.Seq.{take_all}
use lib.ListN.{length, take, length-map}
use lib.Ieee.{Float, binary32, sub, mul, div, neg, lt, of_bits}
use borrow.Author.Tests.{lt-ltb, le-ltb, ltb-false}
use Rattle.std.specs.Prelude.{Option, None, Some}
use Rattle.std.specs.List.{position_or_len}
use Rattle.float32.specs.Binary32.{zero_f}
use Rattle.types.specs.declared.Point2.{Point2}
use Rattle.corners.specs.Ring.{sides}
use Rattle.corners.proofs.Laws.{length-sides}
use Rattle.geometry.specs.Distance.{minus_one, least_length, side_length, edge_signed_distance, edge_signed_distance_by}
use Rattle.inside.specs.declared.Inside.{Inside}
use Rattle.inside.specs.declared.Side.{Side}
use Rattle.inside.specs.Inside.{stop_from, inside, side_of, is_short, is_negative, stop_at, inside_by}

module _ {A : Type 0} (t : A → Bool) (none : Inside) where
  by_place : (k : ℕ) (l : List A) → cond (ltb (position_or_len t l) (length l)) (record { yes = false; read = k + (position_or_len t l + 1) }) none ≡ stop_at t none k l
  by_place k [] = refl
  by_place k (a ∷ l) = by (t a) (by_place (k + 1) l)
    where
      i : ℕ
      i = position_or_len t l

      by : (b : Bool) → cond (ltb i (length l)) (record { yes = false; read = k + 1 + (i + 1) }) none ≡ stop_at t none (k + 1) l
          → cond (ltb (cond (not b) (1 + i) 0) (suc (length l))) (record { yes = false; read = k + (cond (not b) (1 + i) 0 + 1) }) none
          ≡ cond b (record { yes = false; read = k + 1 }) (stop_at t none (k + 1) l)
      by true h = rw (lt-ltb 0 (suc (length l)) (omega arith))
      by false h =
          let one : 1 + i ≡ suc i = omega arith in
          let e : k + (1 + i + 1) ≡ k + 1 + (i + 1) = omega arith in
          (λ j. cond (ltb (one j) (suc (length l))) (record { yes = false; read = e j }) none)
          ∙ ap (λ b. cond b (record { yes = false; read = k + 1 + (i + 1) }) none) (leb-suc-suc (suc i) (length l))
          ∙ h

  abbrev position : List A → Option ℕ
  position l = cond (ltb (position_or_len t l) (length l)) (Some (position_or_len t l)) None

  -- the place, where there is one
  pub found : (l : List A) (i : ℕ) → Some i ≡ position l → (i ≡ position_or_len t l) × (record { yes = false; read = i + 1 } ≡ stop_at t none 0 l)
  found l i e = by (ltb (position_or_len t l) (length l)) e (by_place 0 l)
    where
      at : ℕ
      at = position_or_len t l

      by : (b : Bool) → Some i ≡ cond b (Some at) None → cond b (record { yes = false; read = 0 + (at + 1) }) none ≡ stop_at t none 0 l
          → (i ≡ at) × (record { yes = false; read = i + 1 } ≡ stop_at t none 0 l)
      by true e h = let f : i ≡ at = cc in (f, (λ j. record { yes = false; read = f j + 1 }) ∙ (λ j. record { yes = false; read = sym (zero-add (at + 1)) j }) ∙ h)
      by false e h = absurd (cc)

  pub not_found : (l : List A) → None ≡ position l → (length l ≤ position_or_len t l) × (none ≡ stop_at t none 0 l)
  not_found l e = by (ltb (position_or_len t l) (length l)) refl e (by_place 0 l)
    where
      at : ℕ
      at = position_or_len t l

      by : (b : Bool) → ltb at (length l) ≡ b → None ≡ cond b (Some at) None → cond b (record { yes = false; read = 0 + (at + 1) }) none ≡ stop_at t none 0 l
          → (length l ≤ at) × (none ≡ stop_at t none 0 l)
      by true q e h = absurd (cc)
      by false q e h = (ltb-false _ _ q, h)

-- a test that another one settles where it is met: those before that one's first are asked alone
settled : {A : Type 0} (s t : A → Bool) (none : Inside) (k : ℕ) (l : List A)
    → stop_at t (stop_at s none k l) k (take (position_or_len s l) l) ≡ stop_at (λ a. s a || t a) none k l
settled s t none k [] = refl
settled {A} s t none k (a ∷ l) = by (s a) (settled s t none (k + 1) l)
  where
    here : Inside
    here = record { yes = false; read = k + 1 }

    by : (b : Bool) → stop_at t (stop_at s none (k + 1) l) (k + 1) (take (position_or_len s l) l) ≡ stop_at (λ a. s a || t a) none (k + 1) l
        → stop_at t (cond b here (stop_at s none (k + 1) l)) k (take (cond (not b) (1 + position_or_len s l) 0) (a ∷ l))
        ≡ cond (b || t a) here (stop_at (λ a. s a || t a) none (k + 1) l)
    by true h = refl
    by false h =
        let one : 1 + position_or_len s l ≡ suc (position_or_len s l) = omega arith in
        ap (λ n. stop_at t (stop_at s none (k + 1) l) k (take n (a ∷ l))) one ∙ ap (cond (t a) here) h

-- ---- the sides before the first that is short
module _ (l : List Side) (p : Point2) (few : 3 ≤ length l) where
  abbrev all : Inside
  all = record { yes = true; read = length l }

  by_long : stop_at (is_negative p) (stop_at is_short all 0 l) 0 (take (position_or_len is_short l) l) ≡ inside_by l p
  by_long = settled is_short (is_negative p) all 0 l ∙ rw (le-ltb (length l) 3 few)

  pub some_short : (i : ℕ) → Some i ≡ position is_short all l → stop_at (is_negative p) (record { yes = false; read = i + 1 }) 0 (take i l) ≡ inside_by l p
  some_short i e = let f = found is_short all l i e in (λ j. stop_at (is_negative p) (f.1 j) 0 (take (f.0 j) l)) ∙ by_long

  pub none_short : None ≡ position is_short all l → stop_at (is_negative p) all 0 l ≡ inside_by l p
  none_short e =
      let f = not_found is_short all l e in
      (λ j. stop_at (is_negative p) (f.1 j) 0 (sym (take_all (position_or_len is_short l) l f.0) j)) ∙ by_long

-- ---- the ring's own sides

minus_one_lem : lt minus_one zero_f ≡ true
unfolding lt of_bits neg
minus_one_lem = refl

distance_is : (p : Point2) (s : Point2 × Point2) → is_short (side_of s) || is_negative p (side_of s) ≡ lt (edge_signed_distance p s) zero_f
unfolding is_negative edge_signed_distance_by
distance_is p s = by (lt (side_length s) least_length)
  where
    x : Float
    x = sub binary32 (mul binary32 (sub binary32 s.1.n s.0.n) (sub binary32 p.e s.0.e)) (mul binary32 (sub binary32 s.1.e s.0.e) (sub binary32 p.n s.0.n))

    by : (b : Bool) → b || lt (div binary32 x (side_length s)) zero_f ≡ lt (cond b minus_one (div binary32 x (side_length s))) zero_f
    by true = sym minus_one_lem
    by false = refl

from_sides : (p : Point2) (k n : ℕ) (ss : List (Point2 × Point2)) → n ≡ k + length ss
    → stop_at (λ s. is_short s || is_negative p s) (record { yes = true; read = n }) k (map side_of ss) ≡ stop_from (edge_signed_distance p) k ss
from_sides p k n [] e = λ j. record { yes = true; read = (e ∙ add-zero k) j }
from_sides p k n (s ∷ ss) e = (λ j. cond (distance_is p s j) (record { yes = false; read = k + 1 }) (from_sides p (k + 1) n ss (omega arith) j))

-- by the ring's own sides it is the test itself
pub by_own : (l : List Point2) (p : Point2) → inside_by (map side_of (sides l)) p ≡ inside l p
unfolding inside
by_own l p =
    let n : length (map side_of (sides l)) ≡ length l = length-map (sides l) side_of ∙ length-sides l in
    let f = from_sides p 0 (length (map side_of (sides l))) (sides l) (length-map (sides l) side_of ∙ sym (zero-add (length (sides l)))) in
    (λ j. cond (ltb (n j) 3) (record { yes = false; read = 0 }) (f j))
