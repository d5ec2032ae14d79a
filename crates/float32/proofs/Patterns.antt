-- The root by bit patterns, and what the tests of `sqrtf` tell of a float. Assumes nothing.
use mathlib.Core.Path.{◌≡◌, refl, sym, ap, subst, ◌∙◌}
use mathlib.Core.Logic.{◌⊎◌, inl, inr}
use Prim.Native.Nat.{ℕ, zero, suc, ◌+◌, ◌-◌, ◌*◌, ◌/◌, ◌%◌, ◌^◌, ◌≤◌, ◌<◌, zero-le}
use native.Mathlib.Nat.{le_trans, le_of_eq, lt_of_le_of_lt, lt_of_not-le, not-le_of_lt, lt_irrefl, zero-lt-suc, mul-pos, mul-one, zero-mul, mul_assoc, mul_right_comm, mul-div_cancel, mul-le-mul, mul-le-mul_right, le_of_mul-le-mul_right, mul-lt-mul_of_pos_right, mod-eq_of_lt, eq-zero-or-pos, eq-or-lt_of_le}
use native.Mathlib.Omega.{arith}
use mathlib.Core.Bool.{Bool, true, false, not, cond, true≢false, false≢true}
use lib.IntN.{ℤ}
use lib.Dec.{T, leb, ltb, eqb, leb→le, ltb→lt, lt→ltb, eqb→eq, not_T, nleb→lt}
use lib.Count.{count_leading_zeros, leading_top}
use lib.Pow.{pow-add, pow_pos, pow_mono}
use lib.Ieee.{Float, nan, inf, fin, binary32, up, down, odd, fits, is_nan, eq, lt, le, level, of_fields, of_bits, to_bits, nan_bits}
use lib.Ieee.Bits.{is_true, is_false, cond_no, nan_bits_is, nan_bits_above, of_bits-to_bits}
use lib.Ieee.Fits.{down_pos, up_pos, round-fits, nan-fits, and_l, and_i, eq→eqb}
use lib.Ieee.Exact.{HasValue, odd_sign}
use lib.Ieee.Order.{le_of_values}
use lib.Ieee.Positive.{positive, above, first_pos, above_of_le, positive_of_value, values_of_le}
use Rattle.float32.specs.Sqrt.{rounded_root, square_root}

-- ---- the root of a / 2 ^ 149
pub root_of_value : (x : Float) (a : ℕ) → 0 < a → HasValue x false a (2 ^ 149) → square_root x ≡ rounded_root (a * 2 ^ 51)
unfolding square_root
root_of_value nan a h v = absurd v
root_of_value (inf s) a h v = absurd v
root_of_value (fin true m e) a h v = absurd (true≢false v.0)
root_of_value (fin false zero e) a h v = absurd (lt_irrefl 0 (subst (λ (z : ℕ). 0 < z) (sym v.1 ∙ ap (λ (z : ℕ). z * 2 ^ 149) (zero-mul (up e)) ∙ zero-mul (2 ^ 149)) (mul-pos h (down_pos e))))
root_of_value (fin false (suc m) e) a h v =
    ap rounded_root
    (ap (λ (z : ℕ). z / down e) (sym (mul_assoc (suc m * up e) (2 ^ 149) (2 ^ 51)) ∙ ap (λ (z : ℕ). z * 2 ^ 51) v.1 ∙ mul_right_comm a (down e) (2 ^ 51))
    ∙ mul-div_cancel (a * 2 ^ 51) (down_pos e))

-- ---- what a pattern below an infinity's stands for
fields : (b : ℕ) → b < 2 ^ 31 → of_bits binary32 b ≡ of_fields binary32 false (b / 2 ^ 23) (b % 2 ^ 23)
unfolding of_bits
fields b h =
    ap (λ (s : Bool). of_fields binary32 s (b % 2 ^ 31 / 2 ^ 23) (b % 2 ^ 23)) (is_false (leb (2 ^ 31) b) (not_T (leb (2 ^ 31) b) (λ t. not-le_of_lt h (leb→le (2 ^ 31) b t))))
    ∙ ap (λ (z : ℕ). of_fields binary32 false (z / 2 ^ 23) (b % 2 ^ 23)) (mod-eq_of_lt h)

pub low_value : (b : ℕ) → b < 2 ^ 23 → HasValue (of_bits binary32 b) false b (2 ^ 149)
unfolding of_fields
low_value b h =
    let e : b / 2 ^ 23 ≡ 0 = omega arith in
    let r : b % 2 ^ 23 ≡ b = mod-eq_of_lt h in
    subst (λ (x : Float). HasValue x false b (2 ^ 149)) (sym (fields b (omega arith) ∙ ap (λ (z : ℕ). of_fields binary32 false z (b % 2 ^ 23)) e ∙ ap (of_fields binary32 false 0) r))
    (subst (λ (z : ℕ). HasValue (odd 24 false b 0 149) false z (2 ^ 149)) (mul-one b) (odd_sign 24 false b 0 149))

pub high_value : (b : ℕ) → 2 ^ 23 ≤ b → b < 255 * 2 ^ 23 → HasValue (of_bits binary32 b) false ((2 ^ 23 + b % 2 ^ 23) * 2 ^ (b / 2 ^ 23 - 1)) (2 ^ 149)
unfolding of_fields
high_value b l h =
    subst (λ (x : Float). HasValue x false ((2 ^ 23 + b % 2 ^ 23) * 2 ^ (b / 2 ^ 23 - 1)) (2 ^ 149)) (sym (fields b (omega arith)))
    (go (b / 2 ^ 23) (b % 2 ^ 23) (omega arith) (omega arith))
  where
    go : (x t : ℕ) → 0 < x → x < 255 → HasValue (of_fields binary32 false x t) false ((2 ^ 23 + t) * 2 ^ (x - 1)) (2 ^ 149)
    go zero t p q = absurd (lt_irrefl 0 p)
    go (suc x) t p q =
        subst (λ (z : ℕ). HasValue (of_fields binary32 false (suc x) t) false ((2 ^ 23 + t) * 2 ^ z) (2 ^ 149)) (sym (before x))
        (subst (λ (y : Float). HasValue y false ((2 ^ 23 + t) * 2 ^ x) (2 ^ 149))
        (sym (cond_no (eqb (suc x) 255) (cond (eqb t 0) (inf false) nan) (odd 24 false (2 ^ 23 + t) x 149) (not_T (eqb (suc x) 255) (λ u. lt_irrefl 255 (subst (λ (y : ℕ). y < 255) (eqb→eq (suc x) 255 u) q)))))
        (odd_sign 24 false (2 ^ 23 + t) x 149))
      where
        before : (x : ℕ) → suc x - 1 ≡ x
        before x = omega arith

-- ---- a subnormal pattern, shifted up
abbrev pub Shifted : ℕ → ℕ → Type 0
Shifted b z = (8 ≤ z) × (z - 8 ≤ 23) × (2 ^ 23 ≤ b * 2 ^ (z - 8)) × (b * 2 ^ (z - 8) < 2 ^ 24)

pub shifted : (b : ℕ) → 0 < b → b < 2 ^ 23 → Shifted b (count_leading_zeros 32 b)
shifted b p h =
    let t = leading_top 32 b p (omega arith) in
    go (count_leading_zeros 32 b) t.0 t.1 t.2 t.3
  where
    go : (z j : ℕ) → z + suc j ≡ 32 → 2 ^ j ≤ b → b < 2 ^ suc j → Shifted b z
    go z j e l u =
        let J : j < 23 = lt_of_not-le (λ (g : 23 ≤ j). not-le_of_lt (lt_of_le_of_lt (le_trans (pow_mono g) l) h) (le_of_eq refl)) in
        let E : j + (z - 8) ≡ 23 = omega arith in
        let F : suc j + (z - 8) ≡ 24 = omega arith in (
          omega arith,
          omega arith,
          subst (λ (y : ℕ). y ≤ b * 2 ^ (z - 8)) (sym (pow-add 2 j (z - 8)) ∙ ap (λ (y : ℕ). 2 ^ y) E) (mul-le-mul_right (2 ^ (z - 8)) l),
          subst (λ (y : ℕ). b * 2 ^ (z - 8) < y) (sym (pow-add 2 (suc j) (z - 8)) ∙ ap (λ (y : ℕ). 2 ^ y) F) (mul-lt-mul_of_pos_right u (pow_pos (z - 8))),
        )

pub low_root : (b z : ℕ) → 0 < b → b < 2 ^ 23 → z ≤ 23 → square_root (of_bits binary32 b) ≡ rounded_root (b * 2 ^ z * 2 ^ (51 - z))
low_root b z p h l =
    root_of_value (of_bits binary32 b) b p (low_value b h)
    ∙ ap rounded_root (ap (λ (y : ℕ). b * 2 ^ y) (fifty z l) ∙ ap (λ (y : ℕ). b * y) (pow-add 2 z (51 - z)) ∙ sym (mul_assoc b (2 ^ z) (2 ^ (51 - z))))
  where
    fifty : (z : ℕ) → z ≤ 23 → 51 ≡ z + (51 - z)
    fifty z l = omega arith

pub high_root : (b : ℕ) → 2 ^ 23 ≤ b → b < 255 * 2 ^ 23 → square_root (of_bits binary32 b) ≡ rounded_root ((b % 2 ^ 23 + 2 ^ 23) * 2 ^ (b / 2 ^ 23 + 50))
high_root b l h =
    let f = b / 2 ^ 23 in
    let q = 2 ^ 23 + b % 2 ^ 23 in
    let e : f - 1 + 51 ≡ f + 50 = omega arith in
    let c : q ≡ b % 2 ^ 23 + 2 ^ 23 = omega arith in
    root_of_value (of_bits binary32 b) (q * 2 ^ (f - 1)) (mul-pos (omega arith) (pow_pos (f - 1))) (high_value b l h)
    ∙ ap rounded_root (mul_assoc q (2 ^ (f - 1)) (2 ^ 51) ∙ ap (λ (y : ℕ). q * y) (sym (pow-add 2 (f - 1) 51) ∙ ap (λ (y : ℕ). 2 ^ y) e) ∙ ap (λ (y : ℕ). y * 2 ^ (f + 50)) c)

-- ---- the root fits
rounded_root_fits : (n : ℕ) → T (fits binary32 (rounded_root n))
unfolding rounded_root
rounded_root_fits n = round-fits binary32 false _ (2 ^ 101)

pub root_fits : (x : Float) → T (fits binary32 x) → T (fits binary32 (square_root x))
unfolding square_root
root_fits nan h = h
root_fits (inf true) h = nan-fits binary32
root_fits (inf false) h = h
root_fits (fin s zero e) h = h
root_fits (fin true (suc m) e) h = nan-fits binary32
root_fits (fin false (suc m) e) h = rounded_root_fits _

-- ---- the tests of `sqrtf`, with zero as its pattern
pub is_zero : (x : Float) → eq x (of_bits binary32 0) ≡ true → x ≡ square_root x
unfolding eq of_bits square_root
is_zero nan e = absurd (true≢false (sym e))
is_zero (inf s) e = absurd (true≢false (sym e))
is_zero (fin s zero d) e = refl
is_zero (fin s (suc m) d) e = absurd (positive_product m d (eqb→eq (suc m * up d * 1) (0 * 1 * down d) (and_l (eqb (suc m * up d * 1) (0 * 1 * down d)) _ (subst T (sym e) tt))))
  where
    positive_product : (m : ℕ) (d : ℤ) → suc m * up d * 1 ≡ 0 * 1 * down d → ⊥
    positive_product m d h = lt_irrefl 0 (subst (λ (z : ℕ). 0 < z) (h ∙ ap (λ (z : ℕ). z * down d) (zero-mul 1) ∙ zero-mul (down d)) (mul-pos (mul-pos (zero-lt-suc m) (up_pos d)) (zero-lt-suc 0)))

pub is_above : (x : Float) → lt (of_bits binary32 0) x ≡ true → T (above x)
unfolding lt of_bits
is_above nan e = absurd (true≢false (sym e))
is_above (inf true) e = absurd (true≢false (sym e))
is_above (inf false) e = tt
is_above (fin true m d) e = absurd (true≢false (sym e))
is_above (fin false m d) e = lt→ltb 0 m (first_pos m (up d) (first_pos (m * up d) 1 (lt_of_le_of_lt (zero_le') (ltb→lt (0 * 1 * down d) (m * up d * 1) (subst T (sym e) tt)))))
  where
    zero_le' : 0 ≤ 0 * 1 * down d
    zero_le' = zero-le

pub not_nan : (x : Float) → T (above x) → T (not (is_nan x))
unfolding is_nan
not_nan nan h = absurd h
not_nan (inf s) h = tt
not_nan (fin s m e) h = tt

level_zero : (s : Bool) (a b : ℕ) → a ≡ 0 → b ≡ 0 → T (level s a false b)
level_zero false a b p q = and_i (eqb a b) true (eq→eqb (p ∙ sym q)) tt
level_zero true a b p q = and_i (eqb a b) (eqb a 0) (eq→eqb (p ∙ sym q)) (eq→eqb p)

below_positive : (m : ℕ) (d : ℤ) → 0 * 1 * down d < suc m * up d * 1
below_positive m d = lt_of_le_of_lt (le_of_eq (ap (λ (z : ℕ). z * down d) (zero-mul 1) ∙ zero-mul (down d))) (mul-pos (mul-pos (zero-lt-suc m) (up_pos d)) (zero-lt-suc 0))

pub is_nan_lem : (x : Float) → eq x (of_bits binary32 0) ≡ false → lt (of_bits binary32 0) x ≡ false → square_root x ≡ nan
unfolding eq lt of_bits square_root
is_nan_lem nan e l = refl
is_nan_lem (inf true) e l = refl
is_nan_lem (inf false) e l = absurd (true≢false l)
is_nan_lem (fin s zero d) e l = absurd (subst T e (level_zero s (0 * up d * 1) (0 * 1 * down d) (omega (arith, zero-mul (up d))) (omega (arith, zero-mul (down d)))))
is_nan_lem (fin true (suc m) d) e l = refl
is_nan_lem (fin false (suc m) d) e l = absurd (subst T l (lt→ltb (0 * 1 * down d) (suc m * up d * 1) (below_positive m d)))

-- ---- the pattern of what is above zero
pub pattern_pos : (x : Float) → T (fits binary32 x) → T (above x) → 0 < to_bits binary32 x
unfolding of_bits
pattern_pos x f a = go (eq-zero-or-pos (to_bits binary32 x))
  where
    go : (to_bits binary32 x ≡ 0) ⊎ (0 < to_bits binary32 x) → 0 < to_bits binary32 x
    go (inr p) = p
    go (inl e) = absurd (subst (λ (y : Float). T (above y)) (sym (of_bits-to_bits binary32 x f) ∙ ap (of_bits binary32) e) a)

minus_value : (x : Float) (a c : ℕ) → HasValue x true a c → T (above x) → ⊥
minus_value nan a c v h = v
minus_value (inf s) a c v h = v
minus_value (fin true m e) a c v h = h
minus_value (fin false m e) a c v h = false≢true v.0

negative : (x t : ℕ) → T (above (of_fields binary32 true x t)) → ⊥
unfolding of_fields
negative zero t h = minus_value (odd 24 true t 0 149) (t * 2 ^ 0) (2 ^ 149) (odd_sign 24 true t 0 149) h
negative (suc x) t h = go (eqb (suc x) 255) (eqb t 0) h
  where
    go : (b c : Bool) → T (above (cond b (cond c (inf true) nan) (odd 24 true (2 ^ 23 + t) x 149))) → ⊥
    go true true h = h
    go true false h = h
    go false c h = minus_value (odd 24 true (2 ^ 23 + t) x 149) ((2 ^ 23 + t) * 2 ^ x) (2 ^ 149) (odd_sign 24 true (2 ^ 23 + t) x 149) h

opened : (b : ℕ) → of_bits binary32 b ≡ of_fields binary32 (leb (2 ^ 31) b) (b % 2 ^ 31 / 2 ^ 23) (b % 2 ^ 23)
unfolding of_bits
opened b = refl

pub top_only : (b : ℕ) → 255 * 2 ^ 23 ≤ b → T (above (of_bits binary32 b)) → b ≡ 255 * 2 ^ 23
top_only b l a = elim (eq-or-lt_of_le l) [ inl e ↦ sym e | inr g ↦ absurd (go (leb (2 ^ 31) b) (nleb→lt (2 ^ 31) b) (opened b) g) ]
  where
    go : (t : Bool) → (T (not t) → b < 2 ^ 31) → of_bits binary32 b ≡ of_fields binary32 t (b % 2 ^ 31 / 2 ^ 23) (b % 2 ^ 23) → 255 * 2 ^ 23 < b → ⊥
    go true k e g = negative (b % 2 ^ 31 / 2 ^ 23) (b % 2 ^ 23) (subst (λ (y : Float). T (above y)) e a)
    go false k e g =
        let n : nan_bits binary32 b ≡ true = nan_bits_above binary32 b ∙ is_true (ltb (255 * 2 ^ 23) (b % 2 ^ 31)) (lt→ltb (255 * 2 ^ 23) (b % 2 ^ 31) (subst (λ (z : ℕ). 255 * 2 ^ 23 < z) (sym (mod-eq_of_lt (k tt))) g)) in
        subst (λ (c : Bool). T (not c)) (sym (nan_bits_is binary32 b) ∙ n) (not_nan (of_bits binary32 b) a)

pub is_top : (x : Float) → T (fits binary32 x) → T (above x) → 255 * 2 ^ 23 ≤ to_bits binary32 x → x ≡ square_root x
unfolding of_bits square_root
is_top x f a l =
    let b = to_bits binary32 x in
    let e = of_bits-to_bits binary32 x f in
    let t : x ≡ inf false = sym e ∙ ap (of_bits binary32) (top_only b l (subst (λ (y : Float). T (above y)) (sym e) a)) in
    t ∙ sym (ap square_root t)

-- ---- the least normal number, whose pattern is 2 ^ 23
least_positive : T (positive (of_bits binary32 0x80_0000))
unfolding of_bits
least_positive = tt

least_value : HasValue (of_bits binary32 0x80_0000) false (2 ^ 23) (2 ^ 149)
unfolding of_bits
least_value = (refl, refl)

pub normal_above : (x : Float) → le (of_bits binary32 0x80_0000) x ≡ true → T (above x)
normal_above x e = above_of_le (of_bits binary32 0x80_0000) x least_positive (subst T (sym e) tt)

pub normal_bits : (x : Float) → T (fits binary32 x) → le (of_bits binary32 0x80_0000) x ≡ true → 2 ^ 23 ≤ to_bits binary32 x
normal_bits x f e = go (leb (2 ^ 23) (to_bits binary32 x)) (leb→le (2 ^ 23) (to_bits binary32 x)) (nleb→lt (2 ^ 23) (to_bits binary32 x))
  where
    small : to_bits binary32 x < 2 ^ 23 → HasValue x false (to_bits binary32 x) (2 ^ 149)
    small l = subst (λ (y : Float). HasValue y false (to_bits binary32 x) (2 ^ 149)) (of_bits-to_bits binary32 x f) (low_value (to_bits binary32 x) l)

    go : (t : Bool) → (T t → 2 ^ 23 ≤ to_bits binary32 x) → (T (not t) → to_bits binary32 x < 2 ^ 23) → 2 ^ 23 ≤ to_bits binary32 x
    go true y n = y tt
    go false y n =
        let v = small (n tt) in
        let p = positive_of_value x (to_bits binary32 x) (2 ^ 149) v (pattern_pos x f (normal_above x e)) in
        le_of_mul-le-mul_right (values_of_le (of_bits binary32 0x80_0000) x (2 ^ 23) (2 ^ 149) (to_bits binary32 x) (2 ^ 149) least_positive p least_value v (subst T (sym e) tt)) (pow_pos 149)

least_of_top : (b : ℕ) → b ≡ 255 * 2 ^ 23 → T (le (of_bits binary32 0x80_0000) (of_bits binary32 b))
unfolding of_bits le
least_of_top b e = subst (λ (y : ℕ). T (le (of_bits binary32 0x80_0000) (of_bits binary32 y))) (sym e) tt

pub least_le : (b : ℕ) → 2 ^ 23 ≤ b → b < 255 * 2 ^ 23 → T (le (of_bits binary32 0x80_0000) (of_bits binary32 b))
least_le b l h =
    le_of_values (of_bits binary32 0x80_0000) (of_bits binary32 b) (2 ^ 23) (2 ^ 149) ((2 ^ 23 + b % 2 ^ 23) * 2 ^ (b / 2 ^ 23 - 1)) (2 ^ 149) (pow_pos 149) (pow_pos 149) least_value (high_value b l h)
    (mul-le-mul_right (2 ^ 149) (le_trans (le_of_eq (sym (mul-one (2 ^ 23)))) (mul-le-mul {n₁ = 2 ^ 23} (omega arith) (pow_pos (b / 2 ^ 23 - 1)))))

pub subnormal_bits : (x : Float) → T (fits binary32 x) → T (above x) → le (of_bits binary32 0x80_0000) x ≡ false → to_bits binary32 x < 2 ^ 23
subnormal_bits x f a e = lt_of_not-le (λ (g : 2 ^ 23 ≤ to_bits binary32 x). subst T (ap (le (of_bits binary32 0x80_0000)) (of_bits-to_bits binary32 x f) ∙ e) (reached (to_bits binary32 x) g (subst (λ (y : Float). T (above y)) (sym (of_bits-to_bits binary32 x f)) a)))
  where
    reached : (b : ℕ) → 2 ^ 23 ≤ b → T (above (of_bits binary32 b)) → T (le (of_bits binary32 0x80_0000) (of_bits binary32 b))
    reached b g a = go (leb (255 * 2 ^ 23) b) (leb→le (255 * 2 ^ 23) b) (nleb→lt (255 * 2 ^ 23) b)
      where
        go : (t : Bool) → (T t → 255 * 2 ^ 23 ≤ b) → (T (not t) → b < 255 * 2 ^ 23) → T (le (of_bits binary32 0x80_0000) (of_bits binary32 b))
        go true y n = least_of_top b (top_only b (y tt) a)
        go false y n = least_le b g (n tt)

-- ---- the pattern of a root is no NaN's
pub not_nan_bits : (r : ℕ) → r < 255 * 2 ^ 23 → T (not (nan_bits binary32 r))
not_nan_bits r h =
    subst (λ (b : Bool). T (not b)) (sym (nan_bits_above binary32 r ∙ is_false (ltb (255 * 2 ^ 23) (r % 2 ^ 31)) (not_T (ltb (255 * 2 ^ 23) (r % 2 ^ 31)) (λ t. clash (ltb→lt (255 * 2 ^ 23) (r % 2 ^ 31) t))))) tt
  where
    clash : 255 * 2 ^ 23 < r % 2 ^ 31 → ⊥
    clash g = omega arith

pub from_bits : (x : Float) (r : ℕ) → T (fits binary32 x) → r ≡ to_bits binary32 (square_root (of_bits binary32 (to_bits binary32 x))) → of_bits binary32 r ≡ square_root x
from_bits x r f e =
    let o = of_bits-to_bits binary32 x f in
    ap (of_bits binary32) (e ∙ ap (λ (y : Float). to_bits binary32 (square_root y)) o) ∙ of_bits-to_bits binary32 (square_root x) (root_fits x f)
