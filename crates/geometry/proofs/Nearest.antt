-- Document 02, L1: the distance that comes with a side is the distance, and the side is the first of those that are nearest. Assumes nothing.
use Prim.Native.Nat.{ℕ, zero, suc, ◌+◌, ◌<◌}
use native.Mathlib.Nat.{not-suc-le-zero, le_of_suc-le-suc}
use native.Mathlib.Omega.{arith}
use mathlib.Core.Path.{◌≡◌, refl, sym, ap, subst, ◌∙◌}
use mathlib.Core.Bool.{Bool, true, false, cond}
use mathlib.Core.List.{List, [], ◌∷◌, map}
use mathlib.Core.Logic.{◌⊎◌, inl, inr}
use lib.Dec.{ltb}
use lib.ListN.{length, get_or}
use borrow.Author.Tests.{le-ltb}
use lib.Ieee.{Float, nan, inf, lt, le}
use Rattle.float_order.proofs.Order.{lt_asym, lt_trans, lt_irrefl, not_at_most, not_less}
use Rattle.types.specs.declared.Point2.{Point2}
use Rattle.corners.specs.Ring.{sides}
use Rattle.geometry.specs.declared.FenceDistance.{FenceDistance}
use Rattle.geometry.specs.Distance.{minus_one, edge_signed_distance, least, signed_distance, no_side, nearer_side, nearest_from, nearest}
use Rattle.geometry.specs.Nearest.{ByNone, BySide, NearestClaim}

module _ {A : Type 0} (f : A → Float) where
  nearer_distance : (b : Bool) (d : FenceDistance) (k : ℕ) (x : Float) → (cond b (record { m = x; side = k }) d).m ≡ cond b x d.m
  nearer_distance true d k x = refl
  nearer_distance false d k x = refl

  from_distance : (k : ℕ) (d : FenceDistance) (ss : List A) → (nearest_from f k d ss).m ≡ least f d.m ss
  from_distance k d [] = refl
  from_distance k d (s ∷ ss) =
      from_distance (k + 1) (nearer_side d k (f s)) ss
      ∙ ap (λ (m : Float). least f m ss) (nearer_distance (lt (f s) d.m) d k (f s))

-- the distance is the base's, to the bit
pub nearest_distance : (l : List Point2) (p : Point2) → (nearest l p).m ≡ signed_distance l p
unfolding nearest signed_distance
nearest_distance l p = at (ltb (length l) 3)
  where
    at : (b : Bool) → (cond b (no_side minus_one) (nearest_from (edge_signed_distance p) 0 (no_side (inf false)) (sides l))).m ≡ cond b minus_one (least (edge_signed_distance p) (inf false) (sides l))
    at true = refl
    at false = from_distance (edge_signed_distance p) 0 (no_side (inf false)) (sides l)

-- ---- whose the distance is

-- at each place of a list that begins with one more
at_each : (P : ℕ → Type 0) (n : ℕ) → P 0 → ((i : ℕ) → i < n → P (suc i)) → (i : ℕ) → i < suc n → P i
at_each P n z s zero h = z
at_each P n z s (suc i) h = s i (le_of_suc-le-suc h)

-- the answer from side k on is the one before, or that of the first of the least
record Stays (d : FenceDistance) (xs : List Float) (c : FenceDistance) : Type 0 where
  is : c ≡ d
  none_less_lem : (i : ℕ) → i < length xs → lt (get_or xs i nan) d.m ≡ false

record Given (k : ℕ) (d : FenceDistance) (xs : List Float) (c : FenceDistance) : Type 0 where
  j : ℕ
  number : j < length xs
  is : c ≡ record { m = get_or xs j nan; side = k + j }
  below : lt (get_or xs j nan) d.m ≡ true
  none_less_lem : (i : ℕ) → i < length xs → lt (get_or xs i nan) (get_or xs j nan) ≡ false
  lower_more : (i : ℕ) → i < j → le (get_or xs i nan) (get_or xs j nan) ≡ false

-- the first is nearer than the one before
taken : (k : ℕ) (d : FenceDistance) (x : Float) (xs : List Float) (c : FenceDistance) → lt x d.m ≡ true
    → Stays (record { m = x; side = k }) xs c ⊎ Given (k + 1) (record { m = x; side = k }) xs c → Given k d (x ∷ xs) c
taken k d x xs c h (inl s) =
    record {
      j = 0;
      number = omega arith;
      is = s.is ∙ (λ i. record { m = x; side = same i });
      below = h;
      none_less_lem = at_each (λ i. lt (get_or (x ∷ xs) i nan) x ≡ false) (length xs) (lt_irrefl x) s.none_less_lem;
      lower_more = λ i g. absurd (not-suc-le-zero g);
    }
  where
    same : k ≡ k + 0
    same = omega arith
taken k d x xs c h (inr g) =
    record {
      j = suc g.j;
      number = let n = g.number in omega arith;
      is = g.is ∙ (λ i. record { m = get_or xs g.j nan; side = same g.j i });
      below = lt_trans (get_or xs g.j nan) x d.m g.below h;
      none_less_lem = at_each (λ i. lt (get_or (x ∷ xs) i nan) (get_or xs g.j nan) ≡ false) (length xs) (lt_asym (get_or xs g.j nan) x g.below) g.none_less_lem;
      lower_more = at_each (λ i. le (get_or (x ∷ xs) i nan) (get_or xs g.j nan) ≡ false) g.j (not_at_most x (get_or xs g.j nan) x g.below (lt_irrefl x)) g.lower_more;
    }
  where
    same : (j : ℕ) → k + 1 + j ≡ k + suc j
    same j = omega arith

-- it is not
left : (k : ℕ) (d : FenceDistance) (x : Float) (xs : List Float) (c : FenceDistance) → lt x d.m ≡ false
    → Stays d xs c ⊎ Given (k + 1) d xs c → Stays d (x ∷ xs) c ⊎ Given k d (x ∷ xs) c
left k d x xs c h (inl s) = inl (record { is = s.is; none_less_lem = at_each (λ i. lt (get_or (x ∷ xs) i nan) d.m ≡ false) (length xs) h s.none_less_lem })
left k d x xs c h (inr g) =
    inr (record {
      j = suc g.j;
      number = let n = g.number in omega arith;
      is = g.is ∙ (λ i. record { m = get_or xs g.j nan; side = same g.j i });
      below = g.below;
      none_less_lem = at_each (λ i. lt (get_or (x ∷ xs) i nan) (get_or xs g.j nan) ≡ false) (length xs) (not_less x (get_or xs g.j nan) more) g.none_less_lem;
      lower_more = at_each (λ i. le (get_or (x ∷ xs) i nan) (get_or xs g.j nan) ≡ false) g.j more g.lower_more;
    })
  where
    same : (j : ℕ) → k + 1 + j ≡ k + suc j
    same j = omega arith

    more : le x (get_or xs g.j nan) ≡ false
    more = not_at_most x (get_or xs g.j nan) d.m g.below h

module _ {A : Type 0} (f : A → Float) where
  abbrev Whose : ℕ → FenceDistance → List A → FenceDistance → Type 0
  Whose k d ss c = Stays d (map f ss) c ⊎ Given k d (map f ss) c

  one_more : (k : ℕ) (d : FenceDistance) (s : A) (ss : List A) → ((e : FenceDistance) → Whose (k + 1) e ss (nearest_from f (k + 1) e ss)) → (b : Bool) → lt (f s) d.m ≡ b → Whose k d (s ∷ ss) (nearest_from f (k + 1) (cond b (record { m = f s; side = k }) d) ss)
  one_more k d s ss rest true e = inr (taken k d (f s) (map f ss) _ e (rest (record { m = f s; side = k })))
  one_more k d s ss rest false e = left k d (f s) (map f ss) _ e (rest d)

  whose : (k : ℕ) (d : FenceDistance) (ss : List A) → Whose k d ss (nearest_from f k d ss)
  whose k d [] = inl (record { is = refl; none_less_lem = λ i h. absurd (not-suc-le-zero h) })
  whose k d (s ∷ ss) = one_more k d s ss (λ e. whose (k + 1) e ss) _ refl

module _ (distances : List Float) (answer : FenceDistance) where
  of_side : Given 0 (no_side (inf false)) distances answer → BySide distances answer
  of_side g =
      let e : answer ≡ record { m = get_or distances g.j nan; side = g.j } = g.is ∙ (λ i. record { m = get_or distances g.j nan; side = zero_first g.j i }) in
      subst (BySide distances) (sym e)
      (record { number = g.number; is = refl; below = g.below; none_less_lem = g.none_less_lem; lower_more = g.lower_more })
    where
      zero_first : (j : ℕ) → 0 + j ≡ j
      zero_first j = omega arith

  by_either : Stays (no_side (inf false)) distances answer ⊎ Given 0 (no_side (inf false)) distances answer → ByNone distances answer ⊎ BySide distances answer
  by_either (inl s) = inl (record { is = s.is; none_below = s.none_less_lem })
  by_either (inr g) = inr (of_side g)

pub nearest_side : NearestClaim
unfolding nearest
nearest_side l p h = rw (le-ltb (length l) 3 h) (by_either _ _ (whose (edge_signed_distance p) 0 (no_side (inf false)) (sides l)))
