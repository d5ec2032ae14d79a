-- The claims on corners. Assumes nothing.
use mathlib.Core.Path.{◌≡◌, refl, sym, ap, subst, ◌∙◌}
use mathlib.Core.Bool.{Bool, true, false, cond, true≢false, and-eq-true_iff}
use mathlib.Core.Logic.{◌⊎◌, inl, inr}
use mathlib.Core.List.{List, [], ◌∷◌, ◌++◌, reverse, reverse-cons, map, nil≢cons, cons≢nil, head-eq_of_cons-eq, tail-eq_of_cons-eq}
use lib.Ieee.{Float, lt, eq}
use Rattle.rings.specs.Ring.{SameRing, same, turn, back, and_then}
use Rattle.rings.specs.Spelling.{All, spelled, Ordered, Settled}
use Rattle.rings.specs.Corner.{before, plain_number, plain, written, Accepted, Read, Alike, SameFence}
use Rattle.float32.specs.Binary32.{zero_f}
use Rattle.corners.specs.Acceptance.{same_point}
use Rattle.rings.specs.Claim.{FenceWrittenIsRead, OneFence, FenceStays, FenceTakesForm}
use Rattle.types.specs.declared.Point2.{Point2}
use Rattle.float_order.specs.Number.{Number}
use Rattle.float_order.proofs.Order.{lt_asym, eq_sym, total, eq_lt}
use Rattle.rings.proofs.Floats.{lt_eq, eq_trans}
use Rattle.rings.proofs.Corner.{decide, and_intro, before_cases, north, east, order, Finite, finite_number, settled}
use Rattle.rings.proofs.Unique.{plain_unique}
use Rattle.rings.proofs.Spelling.{all_ring, written_is_read, one_ring, one_spelling, takes_form, stays}

-- ---- rings and a function on corners
module _ {A B : Type 0} (f : A → B) where
  map-append : (l m : List A) → map f (l ++ m) ≡ map f l ++ map f m
  map-append [] m = refl
  map-append (a ∷ l) m = ap (λ (x : List B). f a ∷ x) (map-append l m)

  map-reverse : (l : List A) → map f (reverse l) ≡ reverse (map f l)
  map-reverse [] = refl
  map-reverse (a ∷ l) = ap (map f) (reverse-cons a l) ∙ map-append (reverse l) (a ∷ []) ∙ ap (λ (x : List B). x ++ (f a ∷ [])) (map-reverse l) ∙ sym (reverse-cons (f a) (map f l))

  ring_map : {l m : List A} → SameRing l m → SameRing (map f l) (map f m)
  ring_map same = same
  ring_map (turn {a} {l}) = subst (SameRing (f a ∷ map f l)) (sym (map-append l (a ∷ []))) turn
  ring_map (back {l}) = subst (SameRing (map f l)) (sym (map-reverse l)) back
  ring_map (and_then p q) = and_then (ring_map p) (ring_map q)

  record Lifted (l : List A) (m : List B) : Type 0 where
    way : List A
    ring : SameRing l way
    is : map f way ≡ m

  ring_lift : {a b : List B} → SameRing a b → (l : List A) → map f l ≡ a → Lifted l b
  ring_lift same l e = record { way = l; ring = same; is = e }
  ring_lift (turn {a} {l = m}) l e = by l e
    where
      by : (l : List A) → map f l ≡ a ∷ m → Lifted l (m ++ (a ∷ []))
      by [] e = absurd (nil≢cons e)
      by (p ∷ l) e =
          let first : f p ≡ a = head-eq_of_cons-eq e in
          let rest : map f l ≡ m = tail-eq_of_cons-eq e in
          record { way = l ++ (p ∷ []); ring = turn; is = map-append l (p ∷ []) ∙ rw (first, rest) }
  ring_lift (back {l = m}) l e = record { way = reverse l; ring = back; is = map-reverse l ∙ ap reverse e }
  ring_lift (and_then p q) l e =
      let r = ring_lift p l e in
      let s = ring_lift q r.way r.is in
      record { way = s.way; ring = and_then r.ring s.ring; is = s.is }

-- ---- −0 as 0
eq_self : (x : Float) → Number x → eq x x ≡ true
eq_self x u = by (decide (eq x x)) (decide (lt x x))
  where
    by : (eq x x ≡ true) ⊎ (eq x x ≡ false) → (lt x x ≡ true) ⊎ (lt x x ≡ false) → eq x x ≡ true
    by (inl a) b = a
    by (inr a) (inl b) = absurd (true≢false (sym b ∙ lt_asym x x b))
    by (inr a) (inr b) = absurd (true≢false (sym (total x x u u b a) ∙ b))

pub eq_plain : (x : Float) → Number x → eq x (plain_number x) ≡ true
unfolding plain_number
eq_plain x u = by (decide (eq x zero_f))
  where
    by : (eq x zero_f ≡ true) ⊎ (eq x zero_f ≡ false) → eq x (plain_number x) ≡ true
    by (inl a) = subst (λ (b : Bool). eq x (cond b zero_f x) ≡ true) (sym a) a
    by (inr a) = subst (λ (b : Bool). eq x (cond b zero_f x) ≡ true) (sym a) (eq_self x u)

pub plain_again : (x : Float) → plain_number (plain_number x) ≡ plain_number x
unfolding plain_number
plain_again x = by (eq x zero_f) refl
  where
    either : (b : Bool) → cond b zero_f zero_f ≡ zero_f
    either true = refl
    either false = refl

    by : (b : Bool) → eq x zero_f ≡ b → plain_number (cond b zero_f x) ≡ cond b zero_f x
    by true e = either (eq zero_f zero_f)
    by false e = rw e

same_plain : (p : Point2) → Finite p → same_point p (plain p) ≡ true
unfolding same_point
same_plain p f = and_intro (eq p.n (plain_number p.n)) (eq p.e (plain_number p.e)) (eq_plain p.n (finite_number p.n f.0)) (eq_plain p.e (finite_number p.e f.1))

same_both : (p q : Point2) → same_point p q ≡ true → (eq p.n q.n ≡ true) × (eq p.e q.e ≡ true)
unfolding same_point
same_both p q h = (and-eq-true_iff (eq p.n q.n) (eq p.e q.e)).0 h

-- the order goes by the numbers
before_same : (p q r s : Point2) → same_point p r ≡ true → same_point q s ≡ true → before p q ≡ true → before r s ≡ true
before_same p q r s a b h = by (same_both p r a) (same_both q s b) (before_cases p q h)
  where
    moved : (x y z w : Float) → eq x z ≡ true → eq y w ≡ true → lt x y ≡ true → lt z w ≡ true
    moved x y z w c d k = lt_eq z y w (eq_lt z x y (eq_sym x z c) k) d

    by : (eq p.n r.n ≡ true) × (eq p.e r.e ≡ true) → (eq q.n s.n ≡ true) × (eq q.e s.e ≡ true)
        → (lt p.n q.n ≡ true) ⊎ ((eq p.n q.n ≡ true) × (lt p.e q.e ≡ true)) → before r s ≡ true
    by c d (inl k) = north r s (moved p.n q.n r.n s.n c.0 d.0 k)
    by c d (inr k) =
        east r s (eq_trans r.n q.n s.n (eq_trans r.n p.n q.n (eq_sym p.n r.n c.0) k.0) d.0)
        (moved p.e q.e r.e s.e c.1 d.1 k.1)

ordered_plain : (p q : Point2) → Finite p → Finite q → Ordered before p q → Ordered before (plain p) (plain q)
ordered_plain p q f g (inl h) = inl (before_same p q (plain p) (plain q) (same_plain p f) (same_plain q g) h)
ordered_plain p q f g (inr h) = inr (before_same q p (plain q) (plain p) (same_plain q g) (same_plain p f) h)

settled_plain : (l : List Point2) → All Finite l → Settled before l → Settled before (map plain l)
settled_plain [] f s = tt
settled_plain (p ∷ l) f s = (row l f.1 s.0, settled_plain l f.1 s.1)
  where
    row : (m : List Point2) → All Finite m → All (Ordered before p) m → All (Ordered before (plain p)) (map plain m)
    row [] g o = tt
    row (q ∷ m) g o = (ordered_plain p q f.0 g.0 o.0, row m g.1 o.1)

pub settled_written : (l : List Point2) → Accepted l → Settled before (map plain l)
settled_written l a = settled_plain l a.finite (settled a)

-- ---- corner by corner
alike_plain : (l : List Point2) → All Finite l → Alike l (map plain l)
alike_plain [] f = tt
alike_plain (p ∷ l) f = (same_plain p f.0, alike_plain l f.1)

plain_of_alike : (l m : List Point2) → Read l → Read m → Alike l m → map plain l ≡ map plain m
plain_of_alike [] [] r s a = refl
plain_of_alike [] (q ∷ m) r s a = absurd a
plain_of_alike (p ∷ l) [] r s a = absurd a
plain_of_alike (p ∷ l) (q ∷ m) r s a =
    let b = same_both p q a.0 in
    let north_is : plain_number p.n ≡ plain_number q.n = plain_unique p.n q.n r.0.0 s.0.0 b.0 in
    let east_is : plain_number p.e ≡ plain_number q.e = plain_unique p.e q.e r.0.1 s.0.1 b.1 in
    let rest : map plain l ≡ map plain m = plain_of_alike l m r.1 s.1 a.1 in
    λ i. record { n = north_is i; e = east_is i } ∷ rest i

pub meet : (x y : Float) → Number x → Number y → plain_number x ≡ plain_number y → eq x y ≡ true
meet x y u v h = eq_trans x (plain_number x) y (eq_plain x u) (rw h (eq_sym y (plain_number y) (eq_plain y v)))

same_of_plain : (p q : Point2) → Finite p → Finite q → plain p ≡ plain q → same_point p q ≡ true
unfolding same_point
same_of_plain p q f g h =
    and_intro (eq p.n q.n) (eq p.e q.e)
    (meet p.n q.n (finite_number p.n f.0) (finite_number q.n g.0) (ap (λ (c : Point2). c.n) h))
    (meet p.e q.e (finite_number p.e f.1) (finite_number q.e g.1) (ap (λ (c : Point2). c.e) h))

alike_of_plain : (l m : List Point2) → All Finite l → All Finite m → map plain l ≡ map plain m → Alike l m
alike_of_plain [] [] f g e = tt
alike_of_plain [] (q ∷ m) f g e = absurd (nil≢cons e)
alike_of_plain (p ∷ l) [] f g e = absurd (cons≢nil e)
alike_of_plain (p ∷ l) (q ∷ m) f g e = (same_of_plain p q f.0 g.0 (head-eq_of_cons-eq e), alike_of_plain l m f.1 g.1 (tail-eq_of_cons-eq e))

-- ---- the claims
pub fence_written_is_read : FenceWrittenIsRead
fence_written_is_read l a =
    let r = ring_lift plain (written_is_read before (map plain l)) l refl in
    record { way = r.way; ring = r.ring; alike = subst (Alike r.way) r.is (alike_plain r.way (all_ring Finite r.ring a.finite)) }

pub one_fence : OneFence
one_fence l m a b r s = (there, home)
  where
    there : SameFence l m → written l ≡ written m
    there f =
        let plains : map plain f.way ≡ map plain m = plain_of_alike f.way m (all_ring _ f.ring r) s f.alike in
        one_spelling before order (map plain l) (map plain m) (settled_written l a) (subst (SameRing (map plain l)) plains (ring_map plain f.ring))

    home : written l ≡ written m → SameFence l m
    home e =
        let k = ring_lift plain (one_ring before (map plain l) (map plain m) e) l refl in
        record { way = k.way; ring = k.ring; alike = alike_of_plain k.way m (all_ring Finite k.ring a.finite) b.finite k.is }

pub fence_stays : FenceStays
fence_stays l a = ap (spelled before) (still (written l) (all_ring (λ p. plain p ≡ p) (written_is_read before (map plain l)) (plains l))) ∙ stays before order (map plain l) (settled_written l a)
  where
    plains : (m : List Point2) → All (λ p. plain p ≡ p) (map plain m)
    plains [] = tt
    plains (p ∷ m) = (λ i. record { n = plain_again p.n i; e = plain_again p.e i }, plains m)

    still : (m : List Point2) → All (λ p. plain p ≡ p) m → map plain m ≡ m
    still [] h = refl
    still (p ∷ m) h = λ i. h.0 i ∷ still m h.1 i

pub fence_takes_form : FenceTakesForm
fence_takes_form p l a = takes_form before order (plain p) (map plain l) (settled_written (p ∷ l) a)
