-- An array of 16 that holds a list and then one value in all other places; the corners held, and the distance by their count. Assumes nothing.
use mathlib.Core.Path.{◌≡◌, refl, sym, ap, ◌∙◌}
use Prim.Native.Nat.{ℕ, suc, ◌+◌, ◌-◌, ◌≤◌, ◌<◌}
use native.Mathlib.Nat.{not-suc-le-zero, le_of_suc-le-suc, eq-or-lt_of_le}
use native.Mathlib.Numerals.{add-one}
use native.Mathlib.Omega.{arith}
use mathlib.Core.Bool.{Bool, true, false, cond}
use mathlib.Core.Logic.{◌⊎◌, inl, inr}
use mathlib.Core.List.{List, [], ◌∷◌, ◌++◌, reverse, reverse-cons}
use lib.ListN.{length, get_or, take, drop, set, replicate, length-reverse, get_or-append}
use lib.Seq.{get_or_at, length-take-le, take_all, take-suc, set_at, append_snoc}
use borrow.Author.Tests.{lt-ltb, le-ltb}
use lib.Ieee.{Float, inf}
use Rattle.types.specs.declared.Point2.{Point2}
use Rattle.corners.specs.Ring.{beside, sides}
use Rattle.corners.proofs.Around.{pairs, sides_of}
use Rattle.corners.proofs.Places.{nowhere}
use Rattle.geometry.specs.Polygon.{held_order}
use Rattle.geometry.specs.Distance.{minus_one, no_side, nearest_from, edge_signed_distance_by, nearest_by}

module _ {A : Type 0} where
  reverse-place : (a : A) (l : List A) (i : ℕ) (d : A) → ((i < length l) → get_or (reverse l) i d ≡ get_or l (length l - 1 - i) d) → (i ≡ length l) ⊎ (i < length l)
      → get_or (reverse l ++ a ∷ []) i d ≡ get_or (a ∷ l) (suc (length l) - 1 - i) d
  reverse-place a l i d r (inl h) =
      let e : suc (length l) - 1 - i ≡ 0 = omega arith in
      let f : length (reverse l) ≡ i = length-reverse l ∙ sym h in
      rw e (get_or_at (reverse l) a [] d i f)
  reverse-place a l i d r (inr h) =
      let e : suc (length l) - 1 - i ≡ suc (length l - 1 - i) = omega arith in
      rw (e, get_or-append (reverse l) (a ∷ []) d i (omega (arith, length-reverse l))) (r h)

  pub get_d_reverse : (l : List A) (i : ℕ) (d : A) → i < length l → get_or (reverse l) i d ≡ get_or l (length l - 1 - i) d
  get_d_reverse [] i d h = absurd (not-suc-le-zero h)
  get_d_reverse (a ∷ l) i d h = rw (reverse-cons a l) (reverse-place a l i d (get_d_reverse l i d) (eq-or-lt_of_le (le_of_suc-le-suc h)))

  -- a turn of a loop that fills the array with m
  pub store : (m : List A) (z : A) (i : ℕ) (d : A) → i < length m → i < 16
      → set (take i m ++ replicate (16 - i) z) i (get_or m i d) ≡ take (i + 1) m ++ replicate (16 - (i + 1)) z
  store m z i d h k =
      let e : 16 - i ≡ suc (16 - (i + 1)) = omega arith in
      let f : length (take i m) ≡ i = length-take-le i m (omega arith) in
      rw (e, set_at (take i m) z (replicate (16 - (i + 1)) z) (get_or m i d) i f, add-one, take-suc m i d h) (sym (append_snoc (take i m) (get_or m i d) (replicate (16 - suc i) z)))

  -- its end
  pub stored : (m : List A) (z : A) (i n : ℕ) → length m ≡ n → i ≡ n → take i m ++ replicate (16 - i) z ≡ m ++ replicate (16 - n) z
  stored m z i n e k = rw (k, take_all n m (omega arith))

pub length-order : (ccw : Bool) (l : List Point2) → length (held_order ccw l) ≡ length l
length-order true l = refl
length-order false l = length-reverse l

-- the corner that is held at i
pub held_at : (ccw : Bool) (l : List Point2) (i : ℕ) (d : Point2) → i < length l → get_or l (cond ccw i (length l - 1 - i)) d ≡ get_or (held_order ccw l) i d
held_at true l i d h = refl
held_at false l i d h = sym (get_d_reverse l i d h)

-- the distance by the count of corners
pub distance_few : (l : List Point2) (ms : List Float) (p : Point2) → length l < 3 → nearest_by l ms p ≡ no_side minus_one
unfolding nearest_by
distance_few l ms p h = rw (lt-ltb (length l) 3 h)

pub distance_many : (l : List Point2) (ms : List Float) (p : Point2) → 3 ≤ length l
    → nearest_by l ms p ≡ nearest_from (edge_signed_distance_by p) 0 (no_side (inf false)) (beside (sides l) ms)
unfolding nearest_by
distance_many l ms p h = rw (le-ltb (length l) 3 h)

pub distance_round : (v : List Point2) (ms : List Float) (p : Point2) → 3 ≤ length v
    → nearest_by v ms p ≡ nearest_from (edge_signed_distance_by p) 0 (no_side (inf false)) (beside (pairs (get_or v 0 nowhere) (take (length v - 1) (drop 1 v) ++ get_or v 0 nowhere ∷ [])) ms)
distance_round v ms p h =
    distance_many v ms p h
    ∙ ap (λ (ss : List (Point2 × Point2)). nearest_from (edge_signed_distance_by p) 0 (no_side (inf false)) (beside ss ms)) (sides_of v nowhere (omega arith))
