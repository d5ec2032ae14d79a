-- The least distance is above 0 exactly where no side's distance is at most 0. Assumes nothing.
use Prim.Native.Nat.{◌-◌, ◌<◌, ◌≤◌}
use native.Mathlib.Omega.{arith}
use mathlib.Core.Path.{◌≡◌, refl, sym, ap, ◌∙◌}
use mathlib.Core.Bool.{Bool, true, false, not, ◌||◌, cond, true≢false}
use mathlib.Core.List.{List, [], ◌∷◌, ◌++◌}
use lib.Ieee.{Float, inf, lt, le, neg, of_bits}
use lib.ListN.{length, get_or, take, drop}
use borrow.Author.Tests.{le-ltb, lt-ltb}
use Rattle.float32.specs.Binary32.{zero_f}
use Rattle.float_order.proofs.Order.{lt_numbers, lt_trans, lt_irrefl, le_lt, le_not_lt}
use Rattle.types.specs.declared.Point2.{Point2}
use Rattle.corners.specs.Ring.{sides}
use Rattle.corners.proofs.Around.{pairs, sides_of}
use Rattle.corners.proofs.Places.{nowhere}
use Rattle.std.specs.List.{list_any}
use Rattle.geometry.specs.Distance.{edge_signed_distance, nearer, least, signed_distance}

-- ---- one distance d after x
-- where x is not above 0, neither is the nearer of both
near_stays : (x d : Float) → lt zero_f x ≡ false → lt zero_f (nearer x d) ≡ false
near_stays x d e = by (lt d x) refl (lt zero_f d) refl
  where
    by : (b : Bool) → lt d x ≡ b → (a : Bool) → lt zero_f d ≡ a → lt zero_f (cond b d x) ≡ false
    by false h a p = e
    by true h false p = p
    by true h true p = absurd (true≢false (sym (lt_trans zero_f d x p h) ∙ e))

-- where x is above 0, the nearer is unless d is at most 0
near_above : (x d : Float) → lt zero_f x ≡ true → lt zero_f (nearer x d) ≡ not (le d zero_f)
near_above x d e = by (lt d x) refl (le d zero_f) refl
  where
    above : (a : Bool) → lt zero_f d ≡ a → le d zero_f ≡ true → a ≡ false
    above false p q = refl
    above true p q = sym (le_lt d zero_f d q p) ∙ lt_irrefl d

    by : (b : Bool) → lt d x ≡ b → (a : Bool) → le d zero_f ≡ a → lt zero_f (cond b d x) ≡ not a
    by b h true q = ap (λ (c : Bool). lt zero_f (cond c d x)) (sym h ∙ le_lt d zero_f x q e) ∙ above (lt zero_f d) refl q
    by false h false q = e
    by true h false q = back (lt zero_f d) (sym q ∙ le_not_lt d zero_f (lt_numbers d x h).0 (lt_numbers zero_f x e).0)
      where
        back : (a : Bool) → false ≡ not a → a ≡ true
        back true p = refl
        back false p = p

-- ---- a list of sides
module _ {A : Type 0} (f : A → Float) where
  stays : (x : Float) (l : List A) → lt zero_f x ≡ false → lt zero_f (least f x l) ≡ false
  stays x [] e = e
  stays x (s ∷ l) e = stays (nearer x (f s)) l (near_stays x (f s) e)

  least_from : (x : Float) (l : List A) → lt zero_f x ≡ true → lt zero_f (least f x l) ≡ not (list_any (λ s. le (f s) zero_f) l)
  least_from x [] e = e
  least_from x (s ∷ l) e = by (le (f s) zero_f) (near_above x (f s) e) (λ q. least_from (nearer x (f s)) l q)
    where
      by : (b : Bool) → lt zero_f (nearer x (f s)) ≡ not b
          → (lt zero_f (nearer x (f s)) ≡ true → lt zero_f (least f (nearer x (f s)) l) ≡ not (list_any (λ s. le (f s) zero_f) l))
          → lt zero_f (least f (nearer x (f s)) l) ≡ not (b || list_any (λ s. le (f s) zero_f) l)
      by true q onward = stays (nearer x (f s)) l q
      by false q onward = onward q

  pub least_above : (l : List A) → lt zero_f (least f (inf false) l) ≡ not (list_any (λ s. le (f s) zero_f) l)
  unfolding lt of_bits
  least_above l = least_from (inf false) l refl

-- ---- a ring
pub few : (l : List Point2) (p : Point2) → length l < 3 → lt zero_f (signed_distance l p) ≡ false
unfolding signed_distance lt neg of_bits
few l p h = rw (lt-ltb (length l) 3 h)

pub many : (l : List Point2) (p : Point2) → 3 ≤ length l → lt zero_f (signed_distance l p) ≡ not (list_any (λ s. le (edge_signed_distance p s) zero_f) (sides l))
unfolding signed_distance
many l p h = rw (le-ltb (length l) 3 h) (least_above (edge_signed_distance p) (sides l))

-- the sides, each corner handed on to the next one
pub round : (v : List Point2) (p : Point2) → 3 ≤ length v
    → lt zero_f (signed_distance v p) ≡ not (list_any (λ s. le (edge_signed_distance p s) zero_f) (pairs (get_or v 0 nowhere) (take (length v - 1) (drop 1 v) ++ get_or v 0 nowhere ∷ [])))
round v p h = many v p h ∙ ap (λ (ss : List (Point2 × Point2)). not (list_any (λ s. le (edge_signed_distance p s) zero_f) ss)) (sides_of v nowhere (omega arith))
