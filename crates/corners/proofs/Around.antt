-- Going once round the corners, each handed on to the next side or turn. Assumes nothing.
use Rattle.std.specs.Prelude.{None}
use Rattle.std.specs.List.{list_any}
use mathlib.Core.Path.{◌≡◌, refl, sym, ap, ◌∙◌}
use Prim.Native.Nat.{◌-◌, ◌<◌, ◌≤◌}
use native.Mathlib.Omega.{arith}
use mathlib.Core.Bool.{◌||◌}
use Rattle.std.proofs.Math.Bool.{or_assoc, or-false}
use mathlib.Core.List.{List, [], ◌∷◌, ◌++◌, foldl}
use lib.ListN.{length, get_or, take, drop}
use Rattle.std.proofs.lemmas.List.{drop_more, take_rest}
use lib.Ieee.{Float, binary32, add, mul, lt, of_bits}
use Rattle.float32.specs.Binary32.{zero_f}
use Rattle.types.specs.declared.Point2.{Point2}
use Rattle.corners.specs.Ring.{beside, sides, turns}
use Rattle.corners.specs.Acceptance.{half, flat_turn, cross2, area_term, polygon_area}
use Rattle.corners.specs.Round.{round_of, with_turn, no_turns}
use Rattle.corners.specs.OnceRound.{sign_changes, closed}
use Rattle.corners.proofs.OnceRound.{joins, counted}
use Rattle.corners.specs.declared.Round.{Round}

module _ {A : Type 0} where
  -- a with the first of a list, and so on: the sides of a way that starts at a
  abbrev pub pairs : A → List A → List (A × A)
  pairs a [] = []
  pairs a (b ∷ l) = (a, b) ∷ pairs b l

  -- the turns of a way that starts with a and b
  abbrev pub triples : A → A → List A → List (A × (A × A))
  triples a b [] = []
  triples a b (c ∷ l) = (a, (b, c)) ∷ triples b c l

  pairs_beside : (a : A) (l : List A) (z : A) → pairs a (l ++ z ∷ []) ≡ beside (a ∷ l) (l ++ z ∷ [])
  pairs_beside a [] z = refl
  pairs_beside a (b ∷ l) z = ap (λ (k : List (A × A)). (a, b) ∷ k) (pairs_beside b l z)

  -- the way comes back to its first corner
  pub sides_round : (a : A) (l : List A) → sides (a ∷ l) ≡ pairs a (l ++ a ∷ [])
  sides_round a l = sym (pairs_beside a l a)

  triples_beside : (a b : A) (l : List A) (y z : A) → triples a b (l ++ y ∷ z ∷ []) ≡ beside (a ∷ b ∷ l) (beside (b ∷ (l ++ y ∷ [])) ((l ++ y ∷ []) ++ z ∷ []))
  triples_beside a b [] y z = refl
  triples_beside a b (c ∷ l) y z = ap (λ (k : List (A × (A × A))). (a, (b, c)) ∷ k) (triples_beside b c l y z)

  turns_round : (a b : A) (l : List A) → turns (a ∷ b ∷ l) ≡ triples a b (l ++ a ∷ b ∷ [])
  turns_round a b l = sym (triples_beside a b l a b)

-- the way's turns, one after another
abbrev pub go : Round → Point2 → Point2 → List Point2 → Round
go r a b [] = r
go r a b (c ∷ l) = go (with_turn r (a, (b, c))) b c l

abbrev pub halved : Round → Round
halved r = record { flat = r.flat; pos = r.pos; neg = r.neg; area = mul binary32 r.area half }

abbrev add_side : Float → Point2 × (Point2 × Point2) → Float
add_side x t = add binary32 x (area_term (t.0, t.1.0))

go_tests : (r : Round) (a b : Point2) (l : List Point2)
    → go r a b l
    ≡ record {
      flat = r.flat || list_any flat_turn (triples a b l);
      pos = r.pos || list_any (λ t. lt zero_f (cross2 t)) (triples a b l);
      neg = r.neg || list_any (λ t. lt (cross2 t) zero_f) (triples a b l);
      area = foldl add_side r.area (triples a b l);
    }
go_tests r a b [] = rw (or-false r.flat, or-false r.pos, or-false r.neg)
go_tests r a b (c ∷ l) =
    let t : Point2 × (Point2 × Point2) = (a, (b, c)) in
    go_tests (with_turn r t) b c l ∙ rw (or_assoc r.flat (flat_turn t) _, or_assoc r.pos (lt zero_f (cross2 t)) _, or_assoc r.neg (lt (cross2 t) zero_f) _)

-- the turns' first sides are all sides
by_sides : (x : Float) (a b : Point2) (l : List Point2) (y z : Point2)
    → foldl add_side x (triples a b (l ++ y ∷ z ∷ [])) ≡ foldl (λ x s. add binary32 x (area_term s)) x (pairs a (b ∷ (l ++ y ∷ [])))
by_sides x a b [] y z = refl
by_sides x a b (c ∷ l) y z = by_sides (add binary32 x (area_term (a, b))) b c l y z

-- a list's first element, and the others
pub parts : {A : Type 0} (v : List A) (d : A) → 1 ≤ length v → v ≡ get_or v 0 d ∷ take (length v - 1) (drop 1 v)
parts {A} v d h = drop_more v 0 d h ∙ ap (λ (l : List A). get_or v 0 d ∷ l) (sym (take_rest v 1))

-- the sides of a list by its first element and the others
pub sides_of : {A : Type 0} (v : List A) (d : A) → 1 ≤ length v → sides v ≡ pairs (get_or v 0 d) (take (length v - 1) (drop 1 v) ++ get_or v 0 d ∷ [])
sides_of v d h = ap sides (parts v d h) ∙ sides_round _ _

pub area_round : (a : Point2) (l : List Point2) → polygon_area (a ∷ l) ≡ mul binary32 (foldl (λ x s. add binary32 x (area_term s)) zero_f (pairs a (l ++ a ∷ []))) half
unfolding polygon_area
area_round a l = rw (sides_round a l)

-- once round
pub went_round : (a b : Point2) (l : List Point2) → halved (go no_turns a b (l ++ a ∷ b ∷ [])) ≡ round_of (a ∷ b ∷ l)
unfolding round_of
went_round a b l =
    rw (go_tests no_turns a b (l ++ a ∷ b ∷ []), turns_round a b l, by_sides zero_f a b l a b, area_round a (b ∷ l))

pub changes_round : (a : Point2) (l : List Point2) → sign_changes (a ∷ l) ≡ closed (joins None (pairs a (l ++ a ∷ [])))
changes_round a l = sym (counted (a ∷ l)) ∙ ap (λ (s : List (Point2 × Point2)). closed (joins None s)) (sides_round a l)

-- no corners
pub no_area : (l : List Point2) → length l < 1 → zero_f ≡ polygon_area l
unfolding polygon_area mul add of_bits
no_area [] h = refl
no_area (p ∷ l) h = absurd (omega arith)

pub no_changes : (l : List Point2) → length l < 1 → 0 ≡ sign_changes l
unfolding sign_changes
no_changes [] h = refl
no_changes (p ∷ l) h = absurd (omega arith)
