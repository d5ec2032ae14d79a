-- The inside test agrees with `contains`, and reads as many sides as document 02 says. Assumes nothing.
use Prim.Native.Nat.{ℕ, zero, suc, ◌+◌, ◌<◌, ◌≤◌}
use native.Mathlib.Nat.{not-suc-le-zero, le_of_suc-le-suc}
use native.Mathlib.Omega.{arith}
use mathlib.Core.Path.{◌≡◌, ◌∙◌, refl, sym, ap}
use mathlib.Core.Bool.{Bool, true, false, not, ◌||◌, cond, or-false, true≢false}
use mathlib.Core.List.{List, [], ◌∷◌, map}
use mathlib.Core.Logic.{◌⊎◌, inl, inr}
use lib.Dec.{ltb, lit≤}
use lib.Ieee.{Float, nan, inf, lt, of_bits}
use lib.ListN.{length, get_or}
use borrow.Author.Tests.{le-ltb}
use Rattle.float32.specs.Binary32.{zero_f}
use Rattle.float_order.specs.Number.{Number}
use Rattle.float_order.proofs.Order.{lt_numbers, lt_trans, le_lt, le_not_lt}
use Rattle.types.specs.declared.Point2.{Point2}
use Rattle.corners.specs.Ring.{sides}
use Rattle.corners.proofs.Laws.{length-sides}
use Rattle.geometry.specs.Distance.{edge_signed_distance, nearer, least, signed_distance, contains}
use Rattle.inside.specs.declared.Inside.{Inside}
use Rattle.inside.specs.Inside.{stop_from, inside, StopsAt, ReadsAll, InsideClaim}

-- ---- its yes

-- the lesser of two is negative where one of them is
nearer_negative : (m d z : Float) → Number m → lt (nearer m d) z ≡ lt m z || lt d z
nearer_negative m d z u = by (lt d m) (lt m z) (lt d z) refl refl refl
  where
    by : (a b c : Bool) → lt d m ≡ a → lt m z ≡ b → lt d z ≡ c → lt (cond a d m) z ≡ b || c
    by true true true p q r = r
    by true true false p q r = absurd (true≢false (sym (lt_trans d m z p q) ∙ r))
    by true false c p q r = r
    by false true c p q r = q
    by false false false p q r = q
    by false false true p q r = absurd (true≢false (sym (le_lt m d z (le_not_lt m d u (lt_numbers d z r).0 ∙ ap not p) r) ∙ q))

nearer_number : (m d : Float) → Number m → Number (nearer m d)
nearer_number m d u = by (lt d m) refl
  where
    by : (a : Bool) → lt d m ≡ a → Number (cond a d m)
    by true p = (lt_numbers d m p).0
    by false p = u

module _ {A : Type 0} (f : A → Float) where
  least_number : (m : Float) (ss : List A) → Number m → Number (least f m ss)
  least_number m [] u = u
  least_number m (s ∷ ss) u = least_number (nearer m (f s)) ss (nearer_number m (f s) u)

  -- the least is negative where it was so before, or where the test stops
  least_negative : (k : ℕ) (m : Float) (ss : List A) → Number m → lt (least f m ss) zero_f ≡ lt m zero_f || not (stop_from f k ss).yes
  least_negative k m [] u = sym (or-false (lt m zero_f))
  least_negative k m (s ∷ ss) u =
      least_negative (k + 1) (nearer m (f s)) ss (nearer_number m (f s) u)
      ∙ ap (λ (b : Bool). b || not (stop_from f (k + 1) ss).yes) (nearer_negative m (f s) zero_f u)
      ∙ by (lt m zero_f) (lt (f s) zero_f)
    where
      by : (b c : Bool) → (b || c) || not (stop_from f (k + 1) ss).yes ≡ b || not (cond c (record { yes = false; read = k + 1 }) (stop_from f (k + 1) ss)).yes
      by true c = refl
      by false true = refl
      by false false = refl

zero_number : Number zero_f
unfolding of_bits
zero_number = tt

not_negative : lt (inf false) zero_f ≡ false
unfolding lt of_bits
not_negative = refl

not_not : (b : Bool) → b ≡ not (not b)
not_not true = refl
not_not false = refl

agrees : (l : List Point2) (p : Point2) → 3 ≤ length l → (inside l p).yes ≡ contains l p
unfolding inside contains signed_distance
agrees l p h =
    let f = edge_signed_distance p in
    rw (le-ltb (length l) 3 h)
    (not_not (stop_from f 0 (sides l)).yes
    ∙ ap not
    (sym (least_negative f 0 (inf false) (sides l) tt ∙ ap (λ (b : Bool). b || not (stop_from f 0 (sides l)).yes) not_negative))
    ∙ sym (le_not_lt zero_f (least f (inf false) (sides l)) zero_number (least_number f (inf false) (sides l) tt)))

-- ---- the sides read

at_each : (P : ℕ → Type 0) (n : ℕ) → P 0 → ((i : ℕ) → i < n → P (suc i)) → (i : ℕ) → i < suc n → P i
at_each P n z s zero h = z
at_each P n z s (suc i) h = s i (le_of_suc-le-suc h)

-- after k sides
record Stopped (k : ℕ) (xs : List Float) (r : Inside) : Type 0 where
  j : ℕ
  number : j < length xs
  read : r.read ≡ k + (j + 1)
  negative : lt (get_or xs j nan) zero_f ≡ true
  first : (i : ℕ) → i < j → lt (get_or xs i nan) zero_f ≡ false

record Through (k : ℕ) (xs : List Float) (r : Inside) : Type 0 where
  read : r.read ≡ k + length xs
  none : (i : ℕ) → i < length xs → lt (get_or xs i nan) zero_f ≡ false

one_more : (k : ℕ) (x : Float) (xs : List Float) (r : Inside) → lt x zero_f ≡ false → Stopped (k + 1) xs r ⊎ Through (k + 1) xs r → Stopped k (x ∷ xs) r ⊎ Through k (x ∷ xs) r
one_more k x xs r h (inl s) =
    let e = s.read in
    let n = s.number in
    inl (record { j = suc s.j; number = omega arith; read = omega arith; negative = s.negative; first = at_each (λ i. lt (get_or (x ∷ xs) i nan) zero_f ≡ false) s.j h s.first })
one_more k x xs r h (inr t) =
    let e = t.read in
    inr (record { read = omega arith; none = at_each (λ i. lt (get_or (x ∷ xs) i nan) zero_f ≡ false) (length xs) h t.none })

module _ {A : Type 0} (f : A → Float) where
  read_by : (k : ℕ) (s : A) (ss : List A) → Stopped (k + 1) (map f ss) (stop_from f (k + 1) ss) ⊎ Through (k + 1) (map f ss) (stop_from f (k + 1) ss)
      → (b : Bool) → lt (f s) zero_f ≡ b → Stopped k (f s ∷ map f ss) (cond b (record { yes = false; read = k + 1 }) (stop_from f (k + 1) ss)) ⊎ Through k (f s ∷ map f ss) (cond b (record { yes = false; read = k + 1 }) (stop_from f (k + 1) ss))
  read_by k s ss rest true e = inl (record { j = 0; number = omega arith; read = refl; negative = e; first = λ i g. absurd (not-suc-le-zero g) })
  read_by k s ss rest false e = one_more k (f s) (map f ss) (stop_from f (k + 1) ss) e rest

  reads : (k : ℕ) (ss : List A) → Stopped k (map f ss) (stop_from f k ss) ⊎ Through k (map f ss) (stop_from f k ss)
  reads k [] = inr (record { read = omega arith; none = λ i h. absurd (not-suc-le-zero h) })
  reads k (s ∷ ss) = read_by k s ss (reads (k + 1) ss) _ refl

  read_by_most : (k : ℕ) (ss : List A) → (stop_from f (k + 1) ss).read ≤ k + 1 + length ss → (b : Bool) → (cond b (record { yes = false; read = k + 1 }) (stop_from f (k + 1) ss)).read ≤ k + suc (length ss)
  read_by_most k ss h true = omega arith
  read_by_most k ss h false = omega arith

  reads_most : (k : ℕ) (ss : List A) → (stop_from f k ss).read ≤ k + length ss
  reads_most k [] = omega arith
  reads_most k (s ∷ ss) = read_by_most k ss (reads_most (k + 1) ss) (lt (f s) zero_f)

sides_read : (l : List Point2) (p : Point2) → 3 ≤ length l → StopsAt (map (edge_signed_distance p) (sides l)) (inside l p) ⊎ ReadsAll (map (edge_signed_distance p) (sides l)) (inside l p)
unfolding inside
sides_read l p h = rw (le-ltb (length l) 3 h) (by (reads (edge_signed_distance p) 0 (sides l)))
  where
    by : {xs : List Float} {r : Inside} → Stopped 0 xs r ⊎ Through 0 xs r → StopsAt xs r ⊎ ReadsAll xs r
    by (inl s) = let e = s.read in inl (record { j = s.j; number = s.number; read = omega arith; negative = s.negative; first = s.first })
    by (inr t) = let e = t.read in inr (record { read = omega arith; none = t.none })

most : (l : List Point2) (p : Point2) → length l ≤ 16 → (inside l p).read ≤ 16
unfolding inside
most l p h = by (ltb (length l) 3)
  where
    by : (b : Bool) → (cond b (record { yes = false; read = 0 }) (stop_from (edge_signed_distance p) 0 (sides l))).read ≤ 16
    by true = lit≤ tt
    by false = let m = reads_most (edge_signed_distance p) 0 (sides l) in let e = length-sides l in omega arith

pub inside_claim : InsideClaim
inside_claim = record { agrees = agrees; sides_read = sides_read; most = most }
