-- The order of corners is an order, and accepted corners are settled. Assumes nothing.
use mathlib.Core.Path.{◌≡◌, refl, sym, ◌∙◌}
use mathlib.Core.Bool.{Bool, true, false, ◌&&◌, ◌||◌, true≢false, false≢true, and-eq-true_iff}
use mathlib.Core.Logic.{◌⊎◌, inl, inr}
use mathlib.Core.List.{List, [], ◌∷◌}
use lib.Ieee.{Float, nan, inf, fin, lt, eq}
use Rattle.rings.specs.Spelling.{All, Ordered, Settled, Order}
use Rattle.rings.specs.Corner.{before, Accepted}
use Rattle.std.specs.List.{list_any}
use Rattle.std.proofs.lemmas.Bool.{or_parts}
use Rattle.corners.specs.Ring.{tails}
use Rattle.float32.specs.Libm.{is_finite}
use Rattle.corners.specs.Acceptance.{same_point, recurs}
use Rattle.types.specs.declared.Point2.{Point2}
use Rattle.float_order.specs.Number.{Number}
use Rattle.float_order.proofs.Order.{lt_asym, eq_sym, total, lt_trans, eq_lt}
use Rattle.rings.proofs.Floats.{lt_not_eq, eq_not_lt, lt_eq, eq_trans}

-- ---- tests
or_cases : (x y : Bool) → x || y ≡ true → (x ≡ true) ⊎ (y ≡ true)
or_cases true y e = inl refl
or_cases false y e = inr e

or_right : (x y : Bool) → y ≡ true → x || y ≡ true
or_right true y e = refl
or_right false y e = e

pub decide : (x : Bool) → (x ≡ true) ⊎ (x ≡ false)
decide true = inl refl
decide false = inr refl

pub and_intro : (x y : Bool) → x ≡ true → y ≡ true → x && y ≡ true
and_intro x y p q = (and-eq-true_iff x y).1 (p, q)

-- ---- `before` is an order
pub before_cases : (p q : Point2) → before p q ≡ true → (lt p.n q.n ≡ true) ⊎ ((eq p.n q.n ≡ true) × (lt p.e q.e ≡ true))
unfolding before
before_cases p q h = by (or_cases (lt p.n q.n) (eq p.n q.n && lt p.e q.e) h)
  where
    by : (lt p.n q.n ≡ true) ⊎ (eq p.n q.n && lt p.e q.e ≡ true) → (lt p.n q.n ≡ true) ⊎ ((eq p.n q.n ≡ true) × (lt p.e q.e ≡ true))
    by (inl a) = inl a
    by (inr a) = inr ((and-eq-true_iff (eq p.n q.n) (lt p.e q.e)).0 a)

pub north : (p q : Point2) → lt p.n q.n ≡ true → before p q ≡ true
unfolding before
north p q a = rw a

pub east : (p q : Point2) → eq p.n q.n ≡ true → lt p.e q.e ≡ true → before p q ≡ true
unfolding before
east p q a b = or_right (lt p.n q.n) (eq p.n q.n && lt p.e q.e) (and_intro (eq p.n q.n) (lt p.e q.e) a b)

before_asym : (p q : Point2) → before p q ≡ true → before q p ≡ false
unfolding before
before_asym p q h = by (before_cases p q h)
  where
    by : (lt p.n q.n ≡ true) ⊎ ((eq p.n q.n ≡ true) × (lt p.e q.e ≡ true)) → before q p ≡ false
    by (inl a) = rw (lt_asym p.n q.n a, lt_not_eq p.n q.n a)
    by (inr a) = rw (eq_not_lt p.n q.n a.0, eq_sym p.n q.n a.0, lt_asym p.e q.e a.1)

before_trans : (p q r : Point2) → before p q ≡ true → before q r ≡ true → before p r ≡ true
before_trans p q r h k = by (before_cases p q h) (before_cases q r k)
  where
    by : (lt p.n q.n ≡ true) ⊎ ((eq p.n q.n ≡ true) × (lt p.e q.e ≡ true)) → (lt q.n r.n ≡ true) ⊎ ((eq q.n r.n ≡ true) × (lt q.e r.e ≡ true)) → before p r ≡ true
    by (inl a) (inl b) = north p r (lt_trans p.n q.n r.n a b)
    by (inl a) (inr b) = north p r (lt_eq p.n q.n r.n a b.0)
    by (inr a) (inl b) = north p r (eq_lt p.n q.n r.n a.0 b)
    by (inr a) (inr b) = east p r (eq_trans p.n q.n r.n a.0 b.0) (lt_trans p.e q.e r.e a.1 b.1)

pub order : Order before
order = record { asym = before_asym; trans = before_trans }

-- ---- finite numbers
abbrev pub Finite : Point2 → Type 0
Finite p = (is_finite p.n ≡ true) × (is_finite p.e ≡ true)

pub finite_number : (x : Float) → is_finite x ≡ true → Number x
unfolding is_finite
finite_number nan h = absurd (false≢true h)
finite_number (inf s) h = tt
finite_number (fin s m e) h = tt

-- of two that are not alike one is before the other
pub ordered : (p q : Point2) → Finite p → Finite q → same_point p q ≡ false → Ordered before p q
unfolding same_point
ordered p q f g h = by (decide (lt p.n q.n)) (decide (eq p.n q.n)) (decide (lt p.e q.e)) (decide (eq p.e q.e))
  where
    by : (lt p.n q.n ≡ true) ⊎ (lt p.n q.n ≡ false) → (eq p.n q.n ≡ true) ⊎ (eq p.n q.n ≡ false)
        → (lt p.e q.e ≡ true) ⊎ (lt p.e q.e ≡ false) → (eq p.e q.e ≡ true) ⊎ (eq p.e q.e ≡ false) → Ordered before p q
    by (inl a) b c d = inl (north p q a)
    by (inr a) (inr b) c d = inr (north q p (total p.n q.n (finite_number p.n f.0) (finite_number q.n g.0) a b))
    by (inr a) (inl b) (inl c) d = inl (east p q b c)
    by (inr a) (inl b) (inr c) (inr d) = inr (east q p (eq_sym p.n q.n b) (total p.e q.e (finite_number p.e f.1) (finite_number q.e g.1) c d))
    by (inr a) (inl b) (inr c) (inl d) = absurd (true≢false (sym (and_intro (eq p.n q.n) (eq p.e q.e) b d) ∙ h))

-- ---- accepted corners are settled
settled_by : (l : List Point2) → All Finite l → list_any recurs (tails l) ≡ false → Settled before l
settled_by [] f h = tt
settled_by (p ∷ l) f h =
    let k = or_parts (recurs (p, l)) (list_any recurs (tails l)) h in
    (row l f.1 k.0, settled_by l f.1 k.1)
  where
    row : (m : List Point2) → All Finite m → list_any (same_point p) m ≡ false → All (Ordered before p) m
    row [] g e = tt
    row (q ∷ m) g e =
        let k = or_parts (same_point p q) (list_any (same_point p) m) e in
        (ordered p q f.0 g.0 k.0, row m g.1 k.1)

pub settled : {l : List Point2} → Accepted l → Settled before l
settled {l} a = settled_by l a.finite a.apart
