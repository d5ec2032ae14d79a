-- The bodies of areas: what a part of the bytes reads, one body more, and the first refusal one by one. Assumes nothing.
use Prim.Native.Nat.{ℕ, zero, suc, ◌+◌, ◌*◌, ◌-◌, ◌≤◌, ◌<◌, min}
use native.Mathlib.Omega.{arith}
use mathlib.Core.Path.{◌≡◌, refl, sym, ap, subst, ◌∙◌}
use mathlib.Core.Bool.{Bool, true, false, not, cond, false≢true}
use mathlib.Core.List.{List, [], ◌∷◌, ◌++◌}
use lib.Dec.{eqb, ltb, leb}
use lib.ListN.{length, take, drop, take-append-drop, length-append, length-drop, drop_of_length-le, get_or-eq_default}
use lib.Ieee.{binary32, of_bits}
use lib.Seq.{get_or-take, get_or-drop, take_all, length-take-le}
use borrow.Author.Tests.{eq-eqb, ne_eqb, ltb-true, ltb-false, leb-true, leb-false, lt-ltb, le-ltb, not-false}
use Rattle.wire.specs.Fields.{u8_at, number_at, u32_at, f32_at}
use Rattle.frame_fence.specs.FenceFrame.{point_at, corners_at, corner_array}
use Rattle.frame_fence.proofs.Corners.{length-corners, back}
use Rattle.areas.specs.Held.{Area, Rules, first, All, place, area_fault, answer, and_then, read_from}
use Rattle.areas.specs.Calls.{code}
use Rattle.areas.proofs.Lists.{all_map, all_place, place_length}
use Rattle.areas.proofs.Cut.{one_comparison}
use Rattle.areas.proofs.Good.{clear}
use Rattle.frame_areas.specs.AreaFrame.{Sent, corners_sent, area_rules, body_of, area_of, body_size}
use Rattle.frame_areas.specs.AreasFrame.{bodies, held_in, bodies_fit, counts_fit, bodies_of}

-- ---- bytes behind a place
pub byte_behind : (s : List ℕ) (n i : ℕ) → u8_at (drop n s) i ≡ u8_at s (n + i)
unfolding u8_at
byte_behind s n i = get_or-drop n s i 0

number_behind : (w : ℕ) (s : List ℕ) (n i j : ℕ) → n + i ≡ j → number_at w (drop n s) i ≡ number_at w s j
unfolding number_at
number_behind zero s n i j e = refl
number_behind (suc w) s n i j e = rw (byte_behind s n i, e, number_behind w s n (i + 1) (j + 1) (omega arith))

float_behind : (s : List ℕ) (n i j : ℕ) → n + i ≡ j → f32_at (drop n s) i ≡ f32_at s j
unfolding f32_at u32_at
float_behind s n i j e = ap (of_bits binary32) (number_behind 4 s n i j e)

pub corners_behind : (s : List ℕ) (n i j k : ℕ) → n + i ≡ j → corners_at (drop n s) i k ≡ corners_at s j k
unfolding corners_at point_at
corners_behind s n i j zero e = refl
corners_behind s n i j (suc k) e = rw (float_behind s n i j e, float_behind s n (i + 4) (j + 4) (omega arith), corners_behind s n (i + 8) (j + 8) k (omega arith))

-- ---- the corners of a body
pub sent_at : (b : List ℕ) → corners_at b 2 (min (u8_at b 1) 16) ≡ corners_sent (drop 1 b)
unfolding corners_sent
sent_at b = rw (byte_behind b 1 0, corners_behind b 1 1 2 (min (u8_at b 1) 16) refl)

-- they come out of the array again, n of them
pub sent : (b : List ℕ) (n : ℕ) → n ≡ min (u8_at b 1) 16 → take n (corner_array (corners_at b 2 n)) ≡ corners_sent (drop 1 b)
unfolding corner_array
sent b n e =
    let m : n ≡ min n 16 = omega arith in
    back n (corners_at b 2 n) (length-corners b 2 n ∙ m) ∙ ap (λ (k : ℕ). corners_at b 2 k) e ∙ sent_at b

pub length_sent : (b : List ℕ) → length (corners_sent b) ≡ min (u8_at b 0) 16
unfolding corners_sent
length_sent b = length-corners b 1 (min (u8_at b 0) 16)

-- ---- one body more
pub first_some : (n m : ℕ) → 0 < n → first n m ≡ n
first_some zero m h = absurd (omega arith)
first_some (suc n) m h = refl

pub first_zero : (n m : ℕ) → first n m ≡ 0 → (n ≡ 0) × (m ≡ 0)
first_zero zero m e = (refl, e)
first_zero (suc n) m e = absurd (omega arith)

fit_short : (n : ℕ) (r : List ℕ) → 0 < n → length r < body_size r → bodies_fit n r ≡ false
unfolding bodies_fit
fit_short zero r p h = absurd (omega arith)
fit_short (suc n) r p h = rw (lt-ltb (length r) (body_size r) h)

fit_next : (n : ℕ) (r : List ℕ) → 0 < n → body_size r ≤ length r → bodies_fit n r ≡ bodies_fit (n - 1) (drop (body_size r) r)
unfolding bodies_fit
fit_next zero r p h = absurd (omega arith)
fit_next (suc n) r p h = let e : suc n - 1 ≡ n = omega arith in rw (e, le-ltb (length r) (body_size r) h)

pub fit_end : (n : ℕ) (r : List ℕ) → n ≤ 0 → bodies_fit n r ≡ eqb (length r) 0
unfolding bodies_fit
fit_end zero r p = refl
fit_end (suc n) r p = absurd (omega arith)

pub bodies_short : (n : ℕ) (r : List ℕ) → 0 < n → length r < body_size r → bodies n r ≡ []
unfolding bodies
bodies_short zero r p h = absurd (omega arith)
bodies_short (suc n) r p h = rw (lt-ltb (length r) (body_size r) h)

pub bodies_next : (n : ℕ) (r : List ℕ) → 0 < n → body_size r ≤ length r → bodies n r ≡ area_of (take (body_size r) r) ∷ bodies (n - 1) (drop (body_size r) r)
unfolding bodies
bodies_next zero r p h = absurd (omega arith)
bodies_next (suc n) r p h = let e : suc n - 1 ≡ n = omega arith in rw (e, le-ltb (length r) (body_size r) h)

pub bodies_end : (n : ℕ) (r : List ℕ) → n ≤ 0 → bodies n r ≡ []
unfolding bodies
bodies_end zero r p = refl
bodies_end (suc n) r p = absurd (omega arith)

-- a body cut off by its size is whole
whole : (r : List ℕ) → body_size r ≤ length r → length (take (body_size r) r) ≡ body_size (take (body_size r) r)
unfolding u8_at
whole r h = rw (get_or-take (body_size r) r 1 0 (omega arith)) (length-take-le (body_size r) r h)

-- and has its corner count
pub count_at : (r : List ℕ) → u8_at (drop 1 (take (body_size r) r)) 0 ≡ u8_at r 1
unfolding u8_at
count_at r = rw (get_or-drop 1 (take (body_size r) r) 0 0) (get_or-take (body_size r) r 1 0 (omega arith))

-- a place with a byte that is not 0 is within
pub within : (s : List ℕ) (i : ℕ) → 0 < u8_at s i → i < length s
unfolding u8_at
within s i h = by (ltb i (length s)) refl
  where
    by : (t : Bool) → ltb i (length s) ≡ t → i < length s
    by true e = ltb-true i (length s) e
    by false e = absurd (omega (arith, h, get_or-eq_default s 0 {n = i} (ltb-false i (length s) e)))

-- a frame whose counts fit has a count byte
pub counted : (s : List ℕ) → counts_fit s ≡ true → (5 ≤ length s) × (bodies_fit (u8_at s 4) (drop 5 s) ≡ true)
unfolding counts_fit
counted s e = by (ltb (length s) 5) refl e
  where
    by : (t : Bool) → ltb (length s) 5 ≡ t → cond t false (bodies_fit (u8_at s 4) (drop 5 s)) ≡ true → (5 ≤ length s) × (bodies_fit (u8_at s 4) (drop 5 s) ≡ true)
    by true h k = absurd (false≢true k)
    by false h k = (ltb-false (length s) 5 h, k)

-- ---- a body as long as its count says

-- the corners' bytes are as many as their count says
abbrev pub AsSent : Sent → Type 0
AsSent a = length a.corners ≡ 1 + 8 * u8_at a.corners 0

pub body_back : (b : List ℕ) → 1 ≤ length b → body_of (area_of b) ≡ b
unfolding u8_at
body_back [] h = absurd (omega arith)
body_back (x ∷ b) h = refl

pub body_sent : (b : List ℕ) → length b ≡ body_size b → AsSent (area_of b)
unfolding u8_at
body_sent [] h = absurd (omega arith)
body_sent (x ∷ b) h = omega arith

pub size_taken : (r : List ℕ) → body_size (take (body_size r) r) ≡ body_size r
unfolding u8_at
size_taken r = omega (arith, get_or-take (body_size r) r 1 0 (omega arith))

pub sent_whole : (b : List ℕ) → AsSent (area_of b) → length b ≡ body_size b
unfolding u8_at
sent_whole [] h = absurd (omega arith)
sent_whole (x ∷ b) h = omega arith

-- and so is each body of a frame
pub bodies_sent : (n : ℕ) (r : List ℕ) → All AsSent (bodies n r)
unfolding bodies
bodies_sent zero r = tt
bodies_sent (suc n) r = by (ltb (length r) (body_size r)) refl (bodies_sent n (drop (body_size r) r))
  where
    by : (t : Bool) → ltb (length r) (body_size r) ≡ t → All AsSent (bodies n (drop (body_size r) r))
        → All AsSent (cond t [] (area_of (take (body_size r) r) ∷ bodies n (drop (body_size r) r)))
    by true q h = tt
    by false q h =
        let long : length (take (body_size r) r) ≡ body_size r = length-take-le (body_size r) r (ltb-false (length r) (body_size r) q) in
        (body_sent (take (body_size r) r) (long ∙ sym (size_taken r)), h)

-- the first of those left: b, and l behind it
module _ (n : ℕ) (r b : List ℕ) (l : List Sent) (e : bodies n r ≡ area_of b ∷ l) where
  sent_first : AsSent (area_of b)
  sent_first = (subst (All AsSent) e (bodies_sent n r)).0

  pub whole_first : length b ≡ body_size b
  whole_first = sent_whole b sent_first

  pub bytes_first : length (bodies_of (bodies n r)) ≡ length b + length (bodies_of l)
  unfolding bodies_of
  bytes_first = ap (λ (k : List Sent). length (bodies_of k)) e ∙ omega (arith, length-append (drop 1 b) (bodies_of l), length-drop 1 b, whole_first)

-- ---- how many bodies, and how many bytes
abbrev next : ℕ → List ℕ → List Sent
next n r = bodies n (drop (body_size r) r)

abbrev all : ℕ → List ℕ → Bool → List Sent
all n r t = cond t [] (area_of (take (body_size r) r) ∷ next n r)

pub record Sized (n : ℕ) (r : List ℕ) (l : List Sent) : Type 0 where
  pub count : length l ≤ n
  pub bytes : length (bodies_of l) ≤ length r
  pub two : length l + length l ≤ length (bodies_of l)

pub sized : (n : ℕ) (r : List ℕ) → Sized n r (bodies n r)
unfolding bodies bodies_of
sized zero r = record { count = omega arith; bytes = omega arith; two = omega arith }
sized (suc n) r = by (ltb (length r) (body_size r)) refl (sized n (drop (body_size r) r))
  where
    by : (t : Bool) → ltb (length r) (body_size r) ≡ t → Sized n (drop (body_size r) r) (next n r) → Sized (suc n) r (all n r t)
    by true q h = record { count = omega arith; bytes = omega arith; two = omega arith }
    by false q h =
        let k = ltb-false (length r) (body_size r) q in
        let long : length (take (body_size r) r) ≡ body_size r = length-take-le (body_size r) r k in
        let a = length-append (drop 1 (take (body_size r) r)) (bodies_of (next n r)) in
        let d = length-drop 1 (take (body_size r) r) in
        let m = length-drop (body_size r) r in
        record { count = omega (arith, h.count); bytes = omega (arith, h.bytes, a, d, m, long, k); two = omega (arith, h.two, a, d, long) }

-- as many as are counted, of all the bytes
pub all_fit : (n : ℕ) (r : List ℕ) → length (bodies n r) ≡ n → length (bodies_of (bodies n r)) ≡ length r → bodies_fit n r ≡ true
unfolding bodies bodies_fit bodies_of
all_fit zero r e f = eq-eqb (length r) 0 (sym f)
all_fit (suc n) r e f = by (ltb (length r) (body_size r)) refl e f (all_fit n (drop (body_size r) r))
  where
    by : (t : Bool) → ltb (length r) (body_size r) ≡ t → length (all n r t) ≡ suc n → length (bodies_of (all n r t)) ≡ length r
        → (length (next n r) ≡ n → length (bodies_of (next n r)) ≡ length (drop (body_size r) r) → bodies_fit n (drop (body_size r) r) ≡ true)
        → cond t false (bodies_fit n (drop (body_size r) r)) ≡ true
    by true q e f on = absurd (omega (arith, e))
    by false q e f on =
        let long : length (take (body_size r) r) ≡ body_size r = length-take-le (body_size r) r (ltb-false (length r) (body_size r) q) in
        on (omega (arith, e)) (omega (arith, f, long, length-append (drop 1 (take (body_size r) r)) (bodies_of (next n r)), length-drop 1 (take (body_size r) r), length-drop (body_size r) r))

-- as many bodies as fit some bytes are those bytes
pub record Filled (n : ℕ) (r : List ℕ) : Type 0 where
  pub same : bodies_of (bodies n r) ≡ r
  pub count : length (bodies n r) ≡ n
  pub sent : All AsSent (bodies n r)

pub filled : (n : ℕ) (r : List ℕ) → bodies_fit n r ≡ true → Filled n r
unfolding bodies bodies_fit bodies_of
filled zero [] e = record { same = refl; count = refl; sent = tt }
filled zero (x ∷ r) e = absurd (false≢true (sym (ne_eqb (suc (length r)) 0 (λ h. omega arith)) ∙ e))
filled (suc n) r e = by (ltb (length r) (body_size r)) refl e (filled n (drop (body_size r) r))
  where
    by : (t : Bool) → ltb (length r) (body_size r) ≡ t → cond t false (bodies_fit n (drop (body_size r) r)) ≡ true
        → (bodies_fit n (drop (body_size r) r) ≡ true → Filled n (drop (body_size r) r)) → Filled (suc n) r
    by true q e on = absurd (false≢true e)
    by false q e on =
        let k = on e in
        let long : length (take (body_size r) r) ≡ body_size r = length-take-le (body_size r) r (ltb-false (length r) (body_size r) q) in
        record {
          same = rw q ((λ i. body_back (take (body_size r) r) (omega arith) i ++ k.same i) ∙ take-append-drop (body_size r) r);
          count = rw q (ap suc k.count);
          sent = rw q (body_sent (take (body_size r) r) (long ∙ sym (size_taken r)), k.sent);
        }

-- ---- the counts of a frame, by how many bodies it has and how many bytes they have
module _ (s : List ℕ) where
  pub held_sized : Sized (u8_at s 4) (drop 5 s) (held_in s)
  unfolding held_in
  held_sized = sized (u8_at s 4) (drop 5 s)

  fits : length (held_in s) ≡ u8_at s 4 → 5 + length (bodies_of (held_in s)) ≡ length s → counts_fit s ≡ true
  unfolding counts_fit held_in
  fits e f = rw (le-ltb (length s) 5 (omega (arith, f))) (all_fit (u8_at s 4) (drop 5 s) e (omega (arith, f, length-drop 5 s)))

  told : counts_fit s ≡ true → (length (held_in s) ≡ u8_at s 4) × (5 + length (bodies_of (held_in s)) ≡ length s)
  unfolding held_in
  told h =
      let k = counted s h in
      let f = filled (u8_at s 4) (drop 5 s) k.1 in
      (f.count, omega (arith, ap length f.same, length-drop 5 s, k.0))

  module _ (n bytes : ℕ) (e : n ≡ length (held_in s)) (f : bytes ≡ 5 + length (bodies_of (held_in s))) where
    pub fits_then : n ≡ u8_at s 4 → eqb bytes (length s) ≡ counts_fit s
    fits_then h = by (counts_fit s) refl
      where
        by : (t : Bool) → counts_fit s ≡ t → eqb bytes (length s) ≡ t
        by true q = eq-eqb bytes (length s) (f ∙ (told q).1)
        by false q = ne_eqb bytes (length s) (λ k. false≢true (sym q ∙ fits (sym e ∙ h) (sym f ∙ k)))

    pub fits_else : (n ≡ u8_at s 4 → ⊥) → eqb n (u8_at s 4) ≡ counts_fit s
    fits_else h = by (counts_fit s) refl
      where
        by : (t : Bool) → counts_fit s ≡ t → eqb n (u8_at s 4) ≡ t
        by true q = absurd (h (e ∙ (told q).0))
        by false q = ne_eqb n (u8_at s 4) h

-- ---- the bytes of a slice from a place on
pub rest : (s : List ℕ) (i : ℕ) → take (length s - i) (drop i s) ≡ drop i s
rest s i = take_all (length s - i) (drop i s) (simp length-drop (omega arith))

pub from_five : (s : List ℕ) → drop (min (length s) 5) s ≡ drop 5 s
from_five s = by (ltb (length s) 5) refl
  where
    by : (t : Bool) → ltb (length s) 5 ≡ t → drop (min (length s) 5) s ≡ drop 5 s
    by true h =
        let n : length s < 5 = ltb-true (length s) 5 h in
        drop_of_length-le s {i = min (length s) 5} (omega arith) ∙ sym (drop_of_length-le s {i = 5} (omega arith))
    by false h =
        let n : 5 ≤ length s = ltb-false (length s) 5 h in
        let e : min (length s) 5 ≡ 5 = omega arith in
        ap (λ (k : ℕ). drop k s) e

-- ---- the first refusal one by one, as code finds it
module _ {P : Type 0} (r : Rules P) where
  unfoldable pub fault_from : ℕ → ℕ → List (Area P) → ℕ
  fault_from before n [] = 0
  fault_from before n (a ∷ m) = first (area_fault r (not (ltb before a.number)) n a) (fault_from a.number (n + 1) m)

  pub one_by_one : (before : ℕ) (l m : List (Area P)) → All (λ b. b.number ≤ before) l → code (read_from r before l m) ≡ fault_from before (length l) m
  unfolding fault_from
  one_by_one before l [] p = refl
  one_by_one before l (a ∷ m) p =
      rw (one_comparison before a.number l p) (by (area_fault r (not (ltb before a.number)) (length l) a) refl (λ k q. one_by_one a.number k m q))
    where
      by : (f : ℕ) → area_fault r (not (ltb before a.number)) (length l) a ≡ f
          → ((k : List (Area P)) → All (λ b. b.number ≤ a.number) k → code (read_from r a.number k m) ≡ fault_from a.number (length k) m)
          → code (and_then (answer f (place a l)) (λ k. read_from r a.number k m)) ≡ first f (fault_from a.number (length l + 1) m)
      by (suc f) e onward = refl
      by zero e onward =
          let above : before < a.number = ltb-true before a.number (not-false (ltb before a.number) (clear r _ l a e).number) in
          let same : length (place a l) ≡ length l + 1 = omega (arith, place_length a l) in
          rw (← same) (onward (place a l) (all_place _ a l (omega arith) (all_map _ _ (λ x h. omega (arith, h, above)) l p)))

-- a comparison the other way round
leb-not : (a b : ℕ) → leb a b ≡ not (ltb b a)
leb-not a b = by (leb a b) refl
  where
    by : (t : Bool) → leb a b ≡ t → t ≡ not (ltb b a)
    by true h = rw (le-ltb b a (leb-true a b h))
    by false h = rw (lt-ltb b a (leb-false a b h))

-- ---- a turn of the loop over the bodies: of the body b the number k and the refusal f, and x, the answer of the whole
module _ (before n : ℕ) (b : List ℕ) (l : List Sent) (x : ℕ) (all : fault_from area_rules before n (area_of b ∷ l) ≡ x) where
  module _ (k f : ℕ) (number : k ≡ u8_at b 0) (fault : f ≡ area_fault area_rules (leb k before) n (area_of b)) where
    refusal : f ≡ area_fault area_rules (not (ltb before (u8_at b 0))) n (area_of b)
    refusal = fault ∙ ap (λ (t : Bool). area_fault area_rules t n (area_of b)) (leb-not k before ∙ ap (λ (i : ℕ). not (ltb before i)) number)

    this_first : first f (fault_from area_rules k (n + 1) l) ≡ x
    unfolding fault_from
    this_first = rw (refusal, number) all

    pub turn_ends : 0 < f → f ≡ x
    turn_ends z = sym (first_some f _ z) ∙ this_first

    pub turn_goes : f ≡ 0 → fault_from area_rules k (n + 1) l ≡ x
    turn_goes z = rw z at this_first
