-- The order of floats, −0 as 0: two or three numbers compare as natural numbers, their ranks. Assumes nothing.
use Prim.Native.Nat.{ℕ, suc, ◌+◌, ◌-◌, ◌*◌, ◌≤◌, ◌<◌}
use native.Mathlib.Nat.{mul_assoc, mul_comm, mul-lt-mul_of_pos_right, lt_of_mul-lt-mul_right, eq_of_mul-eq-mul_right}
use native.Mathlib.Omega.{arith}
use mathlib.Core.Path.{◌≡◌, refl, sym, ap, ◌∙◌}
use mathlib.Core.Bool.{Bool, true, false, not, ◌&&◌, ◌||◌, and-true, true≢false, false≢true, and-eq-true_iff}
use lib.Dec.{ltb, eqb}
use lib.Ieee.{Float, nan, inf, fin, up, down, below, level, lt, le, eq}
use lib.Ieee.Fits.{down_pos}
use Rattle.float_order.specs.Number.{Number}
use borrow.Author.Tests.{ltb-true, ltb-false, eqb-true, eqb-false, lt-ltb, le-ltb, eq-eqb, ne_eqb}

-- ---- tests
bool_iff : (b c : Bool) → (b ≡ true → c ≡ true) → (c ≡ true → b ≡ true) → b ≡ c
bool_iff true c p q = sym (p refl)
bool_iff false true p q = q refl
bool_iff false false p q = refl

ltb_iff : (a b c d : ℕ) → (a < b → c < d) → (c < d → a < b) → ltb a b ≡ ltb c d
ltb_iff a b c d p q = bool_iff (ltb a b) (ltb c d) (λ e. lt-ltb c d (p (ltb-true a b e))) (λ e. lt-ltb a b (q (ltb-true c d e)))

eqb-iff : (a b c d : ℕ) → (a ≡ b → c ≡ d) → (c ≡ d → a ≡ b) → eqb a b ≡ eqb c d
eqb-iff a b c d p q = bool_iff (eqb a b) (eqb c d) (λ e. eq-eqb c d (p (eqb-true a b e))) (λ e. eq-eqb a b (q (eqb-true c d e)))

-- ---- ±a as a number from 0 on: its distance from −n
abbrev at : Bool → ℕ → ℕ → ℕ
at false a n = n + a
at true a n = n - a

below_at : (s : Bool) (a : ℕ) (t : Bool) (b n : ℕ) → a ≤ n → b ≤ n → below s a t b ≡ ltb (at s a n) (at t b n)
below_at false a false b n p q = ltb_iff a b (n + a) (n + b) (λ h. omega arith) (λ h. omega arith)
below_at false a true b n p q = sym (le-ltb (n + a) (n - b) (omega arith))
below_at true a false b n p q = ltb_iff 0 (a + b) (n - a) (n + b) (λ h. omega arith) (λ h. omega arith)
below_at true a true b n p q = ltb_iff b a (n - a) (n - b) (λ h. omega arith) (λ h. omega arith)

level_at : (s : Bool) (a : ℕ) (t : Bool) (b n : ℕ) → a ≤ n → b ≤ n → level s a t b ≡ eqb (at s a n) (at t b n)
level_at false a false b n p q = and-true (eqb a b) ∙ eqb-iff a b (n + a) (n + b) (λ h. omega arith) (λ h. omega arith)
level_at true a true b n p q = and-true (eqb a b) ∙ eqb-iff a b (n - a) (n - b) (λ h. omega arith) (λ h. omega arith)
level_at false a true b n p q =
    bool_iff (eqb a b && eqb a 0) (eqb (n + a) (n - b))
    (λ e. let f = (and-eq-true_iff (eqb a b) (eqb a 0)).0 e in eq-eqb (n + a) (n - b) (omega (arith, eqb-true a b f.0, eqb-true a 0 f.1)))
    (λ e. let f = eqb-true (n + a) (n - b) e in (and-eq-true_iff (eqb a b) (eqb a 0)).1 (eq-eqb a b (omega arith), eq-eqb a 0 (omega arith)))
level_at true a false b n p q =
    bool_iff (eqb a b && eqb a 0) (eqb (n - a) (n + b))
    (λ e. let f = (and-eq-true_iff (eqb a b) (eqb a 0)).0 e in eq-eqb (n - a) (n + b) (omega (arith, eqb-true a b f.0, eqb-true a 0 f.1)))
    (λ e. let f = eqb-true (n - a) (n + b) e in (and-eq-true_iff (eqb a b) (eqb a 0)).1 (eq-eqb a b (omega arith), eq-eqb a 0 (omega arith)))

-- ---- over a larger denominator
module _ (k : ℕ) (h : 0 < k) where
  ltb-times : (a b : ℕ) → ltb a b ≡ ltb (a * k) (b * k)
  ltb-times a b = ltb_iff a b (a * k) (b * k) (λ p. mul-lt-mul_of_pos_right p h) (λ p. lt_of_mul-lt-mul_right k p)

  eqb-times : (a b : ℕ) → eqb a b ≡ eqb (a * k) (b * k)
  eqb-times a b = eqb-iff a b (a * k) (b * k) (λ p. ap (λ (x : ℕ). x * k) p) (λ p. eq_of_mul-eq-mul_right k h a b p)

  below_times : (s : Bool) (a : ℕ) (t : Bool) (b : ℕ) → below s a t b ≡ below s (a * k) t (b * k)
  below_times false a false b = ltb-times a b
  below_times false a true b = refl
  below_times true a false b =
      let none : 0 * k ≡ 0 = omega arith in
      let both : (a + b) * k ≡ a * k + b * k = omega arith in
      ltb-times 0 (a + b) ∙ rw (none, both)
  below_times true a true b = ltb-times b a

  level_times : (s : Bool) (a : ℕ) (t : Bool) (b : ℕ) → level s a t b ≡ level s (a * k) t (b * k)
  level_times s a t b =
      let zero_times : eqb a 0 ≡ eqb (a * k) 0 = eqb-iff a 0 (a * k) 0 (λ p. rw p (omega arith)) (λ p. eq_of_mul-eq-mul_right k h a 0 (p ∙ omega arith)) in
      rw (eqb-times a b, zero_times)

-- ---- the rank of a number among numbers
abbrev num : Float → ℕ
num nan = 0
num (inf s) = 0
num (fin s m e) = m * up e

abbrev den : Float → ℕ
den nan = 1
den (inf s) = 1
den (fin s m e) = down e

den_pos : (x : Float) → 0 < den x
den_pos nan = omega arith
den_pos (inf s) = omega arith
den_pos (fin s m e) = down_pos e

-- c is what the others' denominators come to, n is at least as large as all of them
abbrev rank : ℕ → ℕ → Float → ℕ
rank c n nan = 0
rank c n (inf true) = 0
rank c n (inf false) = suc (suc (n + n))
rank c n (fin s m e) = suc (at s (m * up e * c) n)

-- x and y compare as i and j
record Pair (x y : Float) (i j : ℕ) : Type 0 where
  less : lt x y ≡ ltb i j
  alike : eq x y ≡ eqb i j

at_le : (s : Bool) (a n : ℕ) → a ≤ n → at s a n ≤ n + n
at_le false a n h = omega arith
at_le true a n h = omega arith

module _ {x y : Float} {i j : ℕ} where
  above : lt x y ≡ true → eq x y ≡ false → i < j → Pair x y i j
  above p q h = record { less = p ∙ sym (lt-ltb i j h); alike = q ∙ sym (ne_eqb i j (λ e. omega arith)) }

  under : lt x y ≡ false → eq x y ≡ false → j < i → Pair x y i j
  under p q h = record { less = p ∙ sym (le-ltb i j (omega arith)); alike = q ∙ sym (ne_eqb i j (λ e. omega arith)) }

  beside : lt x y ≡ false → eq x y ≡ true → i ≡ j → Pair x y i j
  beside p q h = record { less = p ∙ sym (le-ltb i j (omega arith)); alike = q ∙ sym (eq-eqb i j h) }

pair : (x y : Float) (k n : ℕ) → Number x → Number y → 0 < k → num x * (den y * k) ≤ n → num y * (den x * k) ≤ n → Pair x y (rank (den y * k) n x) (rank (den x * k) n y)
unfolding lt eq
pair nan y k n u v h p q = absurd u
pair (inf s) nan k n u v h p q = absurd v
pair (inf true) (inf true) k n u v h p q = beside refl refl refl
pair (inf true) (inf false) k n u v h p q = above refl refl (omega arith)
pair (inf false) (inf true) k n u v h p q = under refl refl (omega arith)
pair (inf false) (inf false) k n u v h p q = beside refl refl refl
pair (inf true) (fin t m e) k n u v h p q = above refl refl (omega arith)
pair (inf false) (fin t m e) k n u v h p q = under refl refl (omega (arith, at_le t (m * up e * (1 * k)) n q))
pair (fin s m e) nan k n u v h p q = absurd v
pair (fin s m e) (inf true) k n u v h p q = under refl refl (omega arith)
pair (fin s m e) (inf false) k n u v h p q = above refl refl (omega (arith, at_le s (m * up e * (1 * k)) n p))
pair (fin s m e) (fin t o d) k n u v h p q =
    let a = m * up e in
    let b = o * up d in
    let i = at s (a * (down d * k)) n in
    let j = at t (b * (down e * k)) n in
    let more : below s (a * down d) t (b * down e) ≡ below s (a * (down d * k)) t (b * (down e * k)) =
    below_times k h s (a * down d) t (b * down e) ∙ rw (mul_assoc a (down d) k, mul_assoc b (down e) k) in
    let more_level : level s (a * down d) t (b * down e) ≡ level s (a * (down d * k)) t (b * (down e * k)) =
    level_times k h s (a * down d) t (b * down e) ∙ rw (mul_assoc a (down d) k, mul_assoc b (down e) k) in
    record {
      less = more ∙ below_at s (a * (down d * k)) t (b * (down e * k)) n p q ∙ ltb_iff i j (suc i) (suc j) (λ h. omega arith) (λ h. omega arith);
      alike = more_level ∙ level_at s (a * (down d * k)) t (b * (down e * k)) n p q ∙ eqb-iff i j (suc i) (suc j) (λ h. omega arith) (λ h. omega arith);
    }

record Two (x y : Float) : Type 0 where
  i : ℕ
  j : ℕ
  xy : Pair x y i j
  yx : Pair y x j i

record Three (x y z : Float) : Type 0 where
  i : ℕ
  j : ℕ
  k : ℕ
  xy : Pair x y i j
  yz : Pair y z j k
  xz : Pair x z i k

two : (x y : Float) → Number x → Number y → Two x y
two x y u v =
    let n = num x * (den y * 1) + num y * (den x * 1) in
    record { i = rank (den y * 1) n x; j = rank (den x * 1) n y; xy = pair x y 1 n u v (omega arith) (omega arith) (omega arith); yx = pair y x 1 n v u (omega arith) (omega arith) (omega arith) }

three : (x y z : Float) → Number x → Number y → Number z → Three x y z
three x y z u v w = by (num x * (den y * den z) + num y * (den x * den z) + num z * (den x * den y)) (omega arith) (omega arith) (omega arith)
  where
    by : (n : ℕ) → num x * (den y * den z) ≤ n → num y * (den x * den z) ≤ n → num z * (den x * den y) ≤ n → Three x y z
    by n p q r =
        record {
          i = rank (den y * den z) n x;
          j = rank (den x * den z) n y;
          k = rank (den x * den y) n z;
          xy = pair x y (den z) n u v (den_pos z) p q;
          yz = rw (mul_comm (den x) (den z), mul_comm (den x) (den y)) (pair y z (den x) n v w (den_pos x) (omega arith) (omega arith));
          xz = rw (mul_comm (den y) (den z)) (pair x z (den y) n u w (den_pos y) (omega arith) r);
        }

-- ---- what compares as true is of numbers
pub lt_numbers : (x y : Float) → lt x y ≡ true → Number x × Number y
unfolding lt
lt_numbers nan y e = absurd (false≢true e)
lt_numbers (inf s) nan e = absurd (false≢true e)
lt_numbers (inf s) (inf t) e = (tt, tt)
lt_numbers (inf s) (fin t n d) e = (tt, tt)
lt_numbers (fin s m e) nan f = absurd (false≢true f)
lt_numbers (fin s m e) (inf t) f = (tt, tt)
lt_numbers (fin s m e) (fin t n d) f = (tt, tt)

pub eq_numbers : (x y : Float) → eq x y ≡ true → Number x × Number y
unfolding eq
eq_numbers nan y e = absurd (false≢true e)
eq_numbers (inf s) nan e = absurd (false≢true e)
eq_numbers (inf s) (inf t) e = (tt, tt)
eq_numbers (inf s) (fin t n d) e = absurd (false≢true e)
eq_numbers (fin s m e) nan f = absurd (false≢true f)
eq_numbers (fin s m e) (inf t) f = absurd (false≢true f)
eq_numbers (fin s m e) (fin t n d) f = (tt, tt)

-- ---- the laws of two
module _ (x y : Float) where
  lt_two : lt x y ≡ true → (t : Two x y) × (t.i < t.j)
  lt_two e =
      let s = lt_numbers x y e in
      let t = two x y s.0 s.1 in
      (t, ltb-true t.i t.j (sym t.xy.less ∙ e))

  eq_two : eq x y ≡ true → (t : Two x y) × (t.i ≡ t.j)
  eq_two e =
      let s = eq_numbers x y e in
      let t = two x y s.0 s.1 in
      (t, eqb-true t.i t.j (sym t.xy.alike ∙ e))

  pub lt_asym : lt x y ≡ true → lt y x ≡ false
  lt_asym e = let t = lt_two e in t.0.yx.less ∙ le-ltb t.0.j t.0.i (omega (arith, t.1))

  pub eq_sym : eq x y ≡ true → eq y x ≡ true
  eq_sym e = let t = eq_two e in t.0.yx.alike ∙ eq-eqb t.0.j t.0.i (sym t.1)

pub total : (x y : Float) → Number x → Number y → lt x y ≡ false → eq x y ≡ false → lt y x ≡ true
total x y u v p q =
    let t = two x y u v in
    t.yx.less ∙ lt-ltb t.j t.i (gap t.i t.j (ltb-false t.i t.j (sym t.xy.less ∙ p)) (eqb-false t.i t.j (sym t.xy.alike ∙ q)))
  where
    gap : (i j : ℕ) → j ≤ i → (i ≡ j → ⊥) → j < i
    gap i j h f = omega arith

-- ---- the laws of three
module _ (x y z : Float) where
  pub lt_trans : lt x y ≡ true → lt y z ≡ true → lt x z ≡ true
  lt_trans p q =
      let t = three x y z (lt_numbers x y p).0 (lt_numbers x y p).1 (lt_numbers y z q).1 in
      t.xz.less ∙ lt-ltb t.i t.k (omega (arith, ltb-true t.i t.j (sym t.xy.less ∙ p), ltb-true t.j t.k (sym t.yz.less ∙ q)))

  pub eq_lt : eq x y ≡ true → lt y z ≡ true → lt x z ≡ true
  eq_lt p q =
      let t = three x y z (eq_numbers x y p).0 (eq_numbers x y p).1 (lt_numbers y z q).1 in
      t.xz.less ∙ lt-ltb t.i t.k (omega (arith, eqb-true t.i t.j (sym t.xy.alike ∙ p), ltb-true t.j t.k (sym t.yz.less ∙ q)))

-- ---- at most, beside less
le_of_lt : (x y : Float) → lt x y ≡ true → le x y ≡ true
unfolding le
le_of_lt x y p = rw p

pub le_lt : (x y z : Float) → le x y ≡ true → lt y z ≡ true → lt x z ≡ true
unfolding le
le_lt x y z p q = by (lt x y) refl p
  where
    by : (b : Bool) → lt x y ≡ b → b || eq x y ≡ true → lt x z ≡ true
    by true e h = lt_trans x y z e q
    by false e h = eq_lt x y z h q

-- what would be true and is false is false
not_true : (b : Bool) → (b ≡ true → ⊥) → b ≡ false
not_true true h = absurd (h refl)
not_true false h = refl

-- y is less than z, and x is not: then x is not at most y
pub not_at_most : (x y z : Float) → lt y z ≡ true → lt x z ≡ false → le x y ≡ false
not_at_most x y z p q = not_true (le x y) (λ e. true≢false (sym (le_lt x y z e p) ∙ q))

-- what is not at most another is not less
pub not_less : (x y : Float) → le x y ≡ false → lt x y ≡ false
not_less x y p = not_true (lt x y) (λ e. true≢false (sym (le_of_lt x y e) ∙ p))

pub lt_irrefl : (x : Float) → lt x x ≡ false
lt_irrefl x = not_true (lt x x) (λ e. true≢false (sym e ∙ lt_asym x x e))

-- of numbers, one is at most another exactly where the other is not less
pub le_not_lt : (x y : Float) → Number x → Number y → le x y ≡ not (lt y x)
unfolding le
le_not_lt x y u v = by (lt y x) (lt x y) (eq x y) refl refl refl
  where
    by : (c a b : Bool) → lt y x ≡ c → lt x y ≡ a → eq x y ≡ b → a || b ≡ not c
    by true true b p q r = absurd (true≢false (sym q ∙ lt_asym y x p))
    by true false true p q r = absurd (true≢false (sym (eq_lt x y x r p) ∙ lt_irrefl x))
    by true false false p q r = refl
    by false true b p q r = refl
    by false false true p q r = refl
    by false false false p q r = absurd (true≢false (sym (total x y u v q r) ∙ p))
