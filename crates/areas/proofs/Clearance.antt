-- The claims on clearance. Assumes nothing.
use Prim.Native.Nat.{◌≤◌, ◌<◌}
use native.Mathlib.Omega.{arith}
use mathlib.Core.Path.{◌≡◌, refl, sym, ap, subst, ◌∙◌}
use mathlib.Core.Bool.{Bool, true, false, not, ◌&&◌, ◌||◌, cond, true≢false}
use mathlib.Core.Logic.{◌⊎◌, inl, inr}
use mathlib.Core.List.{List, [], ◌∷◌, ◌++◌}
use lib.Ieee.{Float, nan, inf, fin, neg, lt, le, eq}
use Rattle.areas.specs.Held.{Area, All, Among, Rising}
use Rattle.areas.specs.Clearance.{nearer, value, clearance, Fences, Areas, WhoseClaim, LeastClaim, LowestClaim, none_less, SideClaim, NanClaim}
use Rattle.areas.proofs.Lists.{all_map, all_append, all_among}
use Rattle.float_order.specs.Number.{Number}
use Rattle.geometry.specs.declared.FenceDistance.{FenceDistance}
use Rattle.float_order.proofs.Order.{lt_trans, lt_numbers, not_at_most, not_less, lt_irrefl, le_not_lt}

-- ---- le beside lt

-- of numbers: what is not less is at least as large
at_least : (x y : Float) → Number x → Number y → lt x y ≡ false → le y x ≡ true
at_least x y u v p = le_not_lt y x v u ∙ ap not p

le_of_lt : (x y : Float) → lt x y ≡ true → le x y ≡ true
unfolding le
le_of_lt x y p = rw p

le_of_eq : (x y : Float) → eq x y ≡ true → le x y ≡ true
unfolding le
le_of_eq x y p = rw p (or_right (lt x y))
  where
    or_right : (b : Bool) → b || true ≡ true
    or_right true = refl
    or_right false = refl

module _ {P : Type 0} (dist : Area P → Float) where
  abbrev at : Area P → Float
  at = value dist

  abbrev from : Area P → FenceDistance
  from a = record { m = at a; side = 254 }

  abbrev Whose : FenceDistance → List (Area P) → FenceDistance → Type 0
  Whose v l c = Fences dist v l c ⊎ Areas dist v l c

  -- the first area is less than what there was
  taken : (v : FenceDistance) (a : Area P) (l : List (Area P)) (c : FenceDistance) → lt (at a) v.m ≡ true → Whose (from a) l c → Areas dist v (a ∷ l) c
  taken v a l c h (inl f) =
      record { left = []; area = a; right = l; parts = refl; is = f.is; below_fence = h; first = tt; none_less_lem = f.none_less_lem }
  taken v a l c h (inr f) =
      record {
        left = a ∷ f.left;
        area = f.area;
        right = f.right;
        parts = ap (λ (x : List (Area P)). a ∷ x) f.parts;
        is = f.is;
        below_fence = lt_trans (at f.area) (at a) v.m f.below_fence h;
        first = (not_at_most (at a) (at f.area) (at a) f.below_fence (lt_irrefl (at a)), f.first);
        none_less_lem = f.none_less_lem;
      }

  -- it is not
  left_alone : (v : FenceDistance) (a : Area P) (l : List (Area P)) (c : FenceDistance) → lt (at a) v.m ≡ false → Whose v l c → Whose v (a ∷ l) c
  left_alone v a l c h (inl f) = inl (record { is = f.is; none_less_lem = (h, f.none_less_lem) })
  left_alone v a l c h (inr f) =
      inr (record {
        left = a ∷ f.left;
        area = f.area;
        right = f.right;
        parts = ap (λ (x : List (Area P)). a ∷ x) f.parts;
        is = f.is;
        below_fence = f.below_fence;
        first = (not_at_most (at a) (at f.area) v.m f.below_fence h, f.first);
        none_less_lem = f.none_less_lem;
      })

  pub whose : WhoseClaim dist
  unfolding clearance
  whose v [] = inl (record { is = refl; none_less_lem = tt })
  whose v (a ∷ l) = by (lt (at a) v.m) refl (λ w. whose w l)
    where
      by : (b : Bool) → lt (at a) v.m ≡ b → ((w : FenceDistance) → Whose w l (clearance dist w l)) → Whose v (a ∷ l) (clearance dist (cond b (from a) v) l)
      by true h on = inr (taken v a l _ h (on (from a)))
      by false h on = left_alone v a l _ h (on v)

  -- ---- at most each of them
  pub least : LeastClaim dist
  least v l p q = by (whose v l)
    where
      AtMost : FenceDistance → Type 0
      AtMost c = (le c.m v.m ≡ true) × All (λ b. le c.m (at b) ≡ true) l

      under : (x : Float) (m : List (Area P)) → Number x → All (λ b. Number (at b)) m → All (λ b. lt (at b) x ≡ false) m → All (λ b. le x (at b) ≡ true) m
      under x [] u n s = tt
      under x (b ∷ m) u n s = (at_least (at b) x n.0 u s.0, under x m u n.1 s.1)

      by : Whose v l (clearance dist v l) → AtMost (clearance dist v l)
      by (inl f) = subst AtMost (sym f.is) (at_least v.m v.m p p (lt_irrefl v.m), under v.m l p q f.none_less_lem)
      by (inr f) =
          let u : Number (at f.area) = (lt_numbers (at f.area) v.m f.below_fence).0 in
          let n : All (λ (b : Area P). lt (at b) (at f.area) ≡ false) l =
          rw f.parts (all_append _ f.left (f.area ∷ f.right) (all_map _ _ (λ b h. not_less (at b) (at f.area) h) f.left f.first) (lt_irrefl (at f.area), f.none_less_lem)) in
          subst AtMost (sym f.is) (le_of_lt (at f.area) v.m f.below_fence, under (at f.area) l u q n)

  -- ---- the lowest number's
  among_middle : (l : List (Area P)) (a : Area P) (m : List (Area P)) → Among a (l ++ a ∷ m)
  among_middle [] a m = inl refl
  among_middle (b ∷ l) a m = inr (among_middle l a m)

  lowest_of : (l : List (Area P)) (a : Area P) (m : List (Area P)) → Rising (l ++ a ∷ m) → All (λ b. le (at b) (at a) ≡ false) l
      → (b : Area P) → Among b (l ++ a ∷ m) → eq (at b) (at a) ≡ true → a.number ≤ b.number
  lowest_of [] a m s f b (inl e) h = omega (arith, ap (λ (x : Area P). x.number) e)
  lowest_of [] a m s f b (inr i) h = omega (arith, all_among (λ x. a.number < x.number) m b s.0 i)
  lowest_of (d ∷ l) a m s f b (inl e) h = absurd (true≢false (sym (le_of_eq (at b) (at a) h) ∙ ap (λ (x : Area P). le (at x) (at a)) e ∙ f.0))
  lowest_of (d ∷ l) a m s f b (inr i) h = lowest_of l a m s.1 f.1 b i h

  pub lowest : LowestClaim dist
  lowest v l s h = by (whose v l)
    where
      by : Whose v l (clearance dist v l)
          → (a : Area P) × Among a l × (clearance dist v l ≡ from a) × ((b : Area P) → Among b l → eq (at b) (at a) ≡ true → a.number ≤ b.number)
      by (inl f) = absurd (true≢false (sym h ∙ ap (λ (x : FenceDistance). lt x.m v.m) f.is ∙ lt_irrefl v.m))
      by (inr f) = (
        f.area,
        rw f.parts (among_middle f.left f.area f.right),
        f.is,
        rw f.parts (lowest_of f.left f.area f.right (rw f.parts at s) f.first),
      )

  -- ---- the side byte
  none_true : (x : Float) (l : List (Area P)) → All (λ b. lt (at b) x ≡ false) l → none_less dist x l ≡ true
  none_true x [] p = refl
  none_true x (a ∷ l) p = rw p.0 (none_true x l p.1)

  none_false : (x : Float) (l : List (Area P)) (a : Area P) (m : List (Area P)) → lt (at a) x ≡ true → none_less dist x (l ++ a ∷ m) ≡ false
  none_false x [] a m h = rw h
  none_false x (b ∷ l) a m h = rw (none_false x l a m h) (and_false (not (lt (at b) x)))
    where
      and_false : (t : Bool) → t && false ≡ false
      and_false true = refl
      and_false false = refl

  pub side_byte : SideClaim dist
  side_byte v l = by (whose v l)
    where
      by : Whose v l (clearance dist v l) → (clearance dist v l).side ≡ cond (none_less dist v.m l) v.side 254
      by (inl f) = rw (f.is, none_true v.m l f.none_less_lem)
      by (inr f) =
          let n : none_less dist v.m l ≡ false = rw f.parts (none_false v.m f.left f.area f.right f.below_fence) in
          rw (f.is, n)

  -- ---- NaNs
  lt_nan : (x : Float) → lt x nan ≡ false
  unfolding lt
  lt_nan nan = refl
  lt_nan (inf s) = refl
  lt_nan (fin s m e) = refl

  nan_stays : (v : FenceDistance) (l : List (Area P)) → v.m ≡ nan → clearance dist v l ≡ v
  nan_stays v l h = by (whose v l)
    where
      by : Whose v l (clearance dist v l) → clearance dist v l ≡ v
      by (inl f) = f.is
      by (inr f) = absurd (true≢false (sym f.below_fence ∙ ap (lt (at f.area)) h ∙ lt_nan (at f.area)))

  nan_passed : (v : FenceDistance) (a : Area P) (l : List (Area P)) → at a ≡ nan → clearance dist v (a ∷ l) ≡ clearance dist v l
  unfolding clearance lt
  nan_passed v a l h = ap (λ (x : Float). clearance dist (nearer v x) l) h

  pub nans : NanClaim dist
  nans = record { stays = nan_stays; passed = nan_passed }

-- ---- minus a number is one
pub number_neg : (x : Float) → Number x → Number (neg x)
unfolding neg
number_neg nan n = n
number_neg (inf s) n = tt
number_neg (fin s m e) n = tt
