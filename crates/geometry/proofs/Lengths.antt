-- The distance by the lengths of the ring's own sides is the distance. Assumes nothing.
use Prim.Native.Nat.{ℕ, suc, ◌+◌, ◌-◌, ◌<◌, ◌≤◌}
use native.Mathlib.Omega.{arith}
use mathlib.Core.Path.{◌≡◌, refl, ap, ◌∙◌}
use mathlib.Core.Bool.{Bool, true, false, cond}
use borrow.Author.Tests.{ltb-true, ltb-false}
use Rattle.std.proofs.lemmas.List.{drop_more, take_rest, length-drop}
use Rattle.float32.specs.Binary32.{zero_f}
use Rattle.corners.proofs.Around.{pairs, sides_of}
use Rattle.corners.proofs.Places.{nowhere}
use Rattle.geometry.proofs.Hold.{store}
use mathlib.Core.List.{List, [], ◌∷◌, ◌++◌, map}
use lib.Dec.{ltb}
use lib.Seq.{take_all}
use lib.ListN.{length, get_or, take, drop, set, replicate, length-map, length-append, get_or-map, drop_of_length-le}
use lib.Ieee.{Float, inf}
use Rattle.types.specs.declared.Point2.{Point2}
use Rattle.corners.specs.Ring.{beside, sides}
use Rattle.geometry.specs.declared.FenceDistance.{FenceDistance}
use Rattle.geometry.specs.Distance.{no_side, minus_one, side_length, side_lengths, nearer_side, nearest_from, edge_signed_distance, edge_signed_distance_by, nearest, nearest_by}

from_by : (p : Point2) (k : ℕ) (d : FenceDistance) (ss : List (Point2 × Point2)) (z : List Float)
    → nearest_from (edge_signed_distance_by p) k d (beside ss (map side_length ss ++ z)) ≡ nearest_from (edge_signed_distance p) k d ss
from_by p k d [] z = refl
from_by p k d (s ∷ ss) z = from_by p (k + 1) (nearer_side d k (edge_signed_distance p s)) ss z

pub by_side_lengths : (l : List Point2) (p : Point2) → nearest_by l (side_lengths l).m p ≡ nearest l p
unfolding nearest_by nearest
by_side_lengths l p = ap (λ (d : FenceDistance). cond (ltb (length l) 3) (no_side minus_one) d) (from_by p 0 (no_side (inf false)) (sides l) _)

-- what stands at the place i of a list, and after it
module _ {A : Type 0} (l : List A) (i : ℕ) (x : A) (t : List A) (h : drop i l ≡ x ∷ t) where
  pub within : i < length l
  within = cases (ltb i (length l)) refl where
    cases : (b : Bool) → ltb i (length l) ≡ b → i < length l
    cases true e = ltb-true i (length l) e
    cases false e = let f : drop i l ≡ [] = drop_of_length-le l {i = i} (ltb-false i (length l) e) in absurd (cc)

  pub after : drop (i + 1) l ≡ t
  after = let e = drop_more l i x within in cc

  here : get_or l i x ≡ x
  here = let e = drop_more l i x within in cc

  -- a turn of the loop that fills an array with what f makes of a list
  pub store_next : (f : A → Float) (z : Float) → i < 16 → set (take i (map f l) ++ replicate (16 - i) z) i (f x) ≡ take (i + 1) (map f l) ++ replicate (16 - (i + 1)) z
  store_next f z k =
      let e : get_or (map f l) i (f x) ≡ f x = get_or-map f l i x ∙ ap f here in
      rw (← e) (store (map f l) z i (f x) (omega (arith, length-map l f, within)) k)

length-pairs : {A : Type 0} (a : A) (l : List A) → length (pairs a l) ≡ length l
length-pairs a [] = refl
length-pairs a (b ∷ l) = ap suc (length-pairs b l)

module _ (v : List Point2) (some : 1 ≤ length v) where
  abbrev first : Point2
  first = get_or v 0 nowhere

  abbrev rest : List Point2
  rest = take (length v - 1) (drop 1 v)

  abbrev all : List (Point2 × Point2)
  all = pairs first (rest ++ first ∷ [])

  -- the sides so far, and the side at hand
  pub next_side : (i : ℕ) (b : Point2) → i < length rest → drop i all ≡ pairs b (drop i rest ++ first ∷ [])
      → drop i all ≡ (b, get_or rest i nowhere) ∷ pairs (get_or rest i nowhere) (drop (i + 1) rest ++ first ∷ [])
  next_side i b h e = e ∙ ap (λ (l : List Point2). pairs b (l ++ first ∷ [])) (drop_more rest i nowhere h)

  pub last_side : (m : List Float) (i : ℕ) (b : Point2) → length v ≤ 16 → length rest ≤ i → i ≤ length rest → drop i all ≡ pairs b (drop i rest ++ first ∷ [])
      → m ≡ take i (map side_length all) ++ replicate (16 - i) zero_f
      → record { m = set m (length rest) (side_length (b, first)) } ≡ side_lengths v
  last_side m i b few h k e g =
      let n : i ≡ length rest = omega arith in
      let c : length rest + 1 ≡ length v = rw (take_rest v 1) (omega (arith, length-drop 1 v)) in
      let z : drop i rest ≡ [] = drop_of_length-le rest {i = i} h in
      let f : drop i all ≡ (b, first) ∷ [] = e ∙ rw z in
      let t : i + 1 ≡ length (map side_length all) = omega (arith, length-map all side_length, length-pairs first (rest ++ first ∷ []), length-append rest (first ∷ [])) in
      let w : 16 - length v ≡ 16 - (i + 1) = omega arith in
      rw (sides_of v nowhere some, w, ← n, g, store_next all i (b, first) [] f side_length zero_f (omega arith), take_all (i + 1) (map side_length all) (omega arith))
