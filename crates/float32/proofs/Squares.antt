-- Squares of whole numbers: the definition's whole root, and how `nearest_root` finds the nearest one. Assumes nothing.
use mathlib.Core.Path.{◌≡◌, refl, sym, ap, subst, ◌∙◌}
use Prim.Native.Nat.{ℕ, zero, suc, ◌+◌, ◌-◌, ◌*◌, ◌/◌, ◌%◌, ◌^◌, ◌≤◌, ◌<◌}
use native.Mathlib.Nat.{le_trans, le_of_eq, lt_of_lt_of_le, lt_of_le_of_lt, lt_of_not-le, not-le_of_lt, mul-le-mul, mul_comm, mul_assoc, mul_left_comm, mul-add, add-mul, add_assoc, add_comm, pow-succ', pow-le-pow_left, mul-mul-mul_comm, mul-le-mul_right, mul-lt-mul_of_pos_right, mul-pos, one-mul, le_of_suc-le-suc, div-add-mod', mod-lt}
use native.Mathlib.Numerals.{add-one}
use native.Mathlib.Omega.{arith}
use mathlib.Core.Bool.{Bool, true, false, not, cond}
use lib.Dec.{lit≤, T, leb, leb→le, nleb→lt}
use lib.Ieee.{size}
use lib.Ieee.Digits.{size-lt}
use Rattle.float32.specs.Sqrt.{isqrt_below, isqrt}

-- r is n's root, cut to a whole number
abbrev Cut : ℕ → ℕ → Type 0
Cut n r = (r * r ≤ n) × (n < (r + 1) * (r + 1))

-- a square that is below another is a smaller number's
sq_lt : (a b : ℕ) → a * a < b * b → a < b
sq_lt a b h = lt_of_not-le (λ (g : b ≤ a). not-le_of_lt h (mul-le-mul g g))

-- ---- the definition's root
double_cut : (s n r : ℕ) → r ≡ 2 * s → s * s ≤ n / 4 → n / 4 < (s + 1) * (s + 1) → (r * r ≤ n) × (n < (r + 2) * (r + 2))
double_cut s n r e a b =
    let p : r * r ≡ 4 * (s * s) = ap (λ (z : ℕ). z * z) e ∙ simp (mul_assoc, mul_left_comm) (omega arith) in
    let q : (r + 2) * (r + 2) ≡ 4 * ((s + 1) * (s + 1)) = ap (λ (z : ℕ). (z + 2) * (z + 2)) e ∙ squared s in
    (omega arith, omega arith)
  where
    squared : (s : ℕ) → (2 * s + 2) * (2 * s + 2) ≡ 4 * ((s + 1) * (s + 1))
    squared s = ap (λ (z : ℕ). z * z) (two s) ∙ simp (mul_assoc, mul_left_comm) (omega arith)
      where
        two : (s : ℕ) → 2 * s + 2 ≡ 2 * (s + 1)
        two s = omega arith

isqrt_below_cut : (k n : ℕ) → n < 4 ^ k → Cut n (isqrt_below k n)
unfolding isqrt_below
isqrt_below_cut zero n h = (omega arith, omega arith)
isqrt_below_cut (suc k) n h =
    let i = isqrt_below_cut k (n / 4) (quarter (4 ^ k) (subst (λ (z : ℕ). n < z) (pow4 k) h)) in
    let r = 2 * isqrt_below k (n / 4) in
    let d = double_cut (isqrt_below k (n / 4)) n r refl i.0 i.1 in
    go r (leb ((r + 1) * (r + 1)) n) (leb→le ((r + 1) * (r + 1)) n) (nleb→lt ((r + 1) * (r + 1)) n) d.0 d.1
  where
    quarter : (p : ℕ) → n < 4 * p → n / 4 < p
    quarter p g = omega arith

    pow4 : (k : ℕ) → 4 ^ suc k ≡ 4 * 4 ^ k
    pow4 k = pow-succ' 4 k

    go : (r : ℕ) (b : Bool) → (T b → (r + 1) * (r + 1) ≤ n) → (T (not b) → n < (r + 1) * (r + 1)) → r * r ≤ n → n < (r + 2) * (r + 2) → Cut n (cond b (r + 1) r)
    go r true y f a b = (y tt, subst (λ (z : ℕ). n < z * z) (add_assoc' r) b)
      where
        add_assoc' : (r : ℕ) → r + 2 ≡ r + 1 + 1
        add_assoc' r = omega arith
    go r false y f a b = (a, f tt)

four_of_two : (k : ℕ) → 2 ^ k ≤ 4 ^ k
four_of_two k = pow-le-pow_left {n = 2} {m = 4} (lit≤ tt) k

pub isqrt_cut : (n : ℕ) → Cut n (isqrt n)
unfolding isqrt
isqrt_cut n = isqrt_below_cut (size n) n (lt_of_lt_of_le (size-lt n) (four_of_two (size n)))

pub sq_sum : (a b : ℕ) → (a + b) * (a + b) ≡ a * a + 2 * (a * b) + b * b
sq_sum a b = simp (mul-add, add-mul, mul_comm, add_assoc, add_comm) (omega arith)

-- ---- the whole number that is nearest to n's root
abbrev pub Near : ℕ → ℕ → Type 0
Near n p = (p * p < n + p) × (n ≤ p * p + p)

pub settle : (n q s v : ℕ) → n + s ≡ q * q + v → s ≤ v → v < s + 2 * q + 1 → q < v - s → ((q + 1) * (q + 1) < n + (q + 1)) × (n ≤ (q + 1) * (q + 1) + (q + 1))
settle n q s v e l h k = (omega (arith, sq_sum q 1), omega (arith, sq_sum q 1))

pub settle_low : (n q s v : ℕ) → n + s ≡ q * q + v → s ≤ v → 0 < q → v - s ≤ q → (q * q < n + q) × (n ≤ q * q + q)
settle_low n q s v e l h k = (omega arith, omega arith)

-- ---- what `nearest_root` has of v = 128 * m, once r is at most its root and less than 10 below it
pub upper_digits : (m r : ℕ) → 2 ^ 23 ≤ m → m < 2 ^ 25 → r * r ≤ 128 * m → 128 * m < (r + 10) * (r + 10) → (32758 < r) × (r < 65536) × (128 * m ≤ r * r + 20 * r + 99)
upper_digits m r lo hi a b =
    let l : 32768 < r + 10 = sq_lt 32768 (r + 10) (omega arith) in
    let h : r < 65536 = sq_lt r 65536 (omega arith) in
    (omega arith, omega arith, omega (arith, sq_sum r 10))

pub lower_digits : (d r : ℕ) → 32758 < r → d ≤ 20 * r + 99 → (128 * d / r ≤ 2560) × (128 * d / r * (128 * d / r) ≤ 6553600) × (128 * d % r < r) × (128 * d / r * r + 128 * d % r ≡ 128 * d)
lower_digits d r l h =
    let t = 128 * d / r in
    let z : 0 < r = omega arith in
    let e = div-add-mod' (128 * d) r in
    let u = mod-lt (128 * d) {m = r} z in
    let k : t ≤ 2560 = most t (128 * d % r) e in
    (k, mul-le-mul k k, u, e)
  where
    most : (t u : ℕ) → t * r + u ≡ 128 * d → t ≤ 2560
    most t u e = let f : t < 2561 = lt_of_not-le (λ (g : 2561 ≤ t). clash (mul-le-mul_right r g)) in omega arith
      where
        clash : 2561 * r ≤ t * r → ⊥
        clash g = omega arith

-- how far n is from p's square
pub apart_by : (m r d t u : ℕ) → 128 * m ≡ r * r + d → t * r + u ≡ 128 * d → m * 2 ^ 23 + t * t ≡ (256 * r + t) * (256 * r + t) + 512 * u
apart_by m r d t u e f =
    let x : 256 * r * (256 * r) ≡ 65536 * (r * r) = simp (mul_assoc, mul_left_comm) (omega arith) in
    let y : 256 * r * t ≡ 256 * (t * r) = mul_assoc 256 r t ∙ ap (λ (z : ℕ). 256 * z) (mul_comm r t) in
    omega (arith, sq_sum (256 * r) t)

pub stays : (n p s v : ℕ) → n + s ≡ p * p + v → s < p → v ≤ s + p → Near n p
stays n p s v e h k = (omega arith, omega arith)

-- ---- a root of 4 n E E that lies beside p of n: the two middles next to p, times E, are on its two sides
regroup : (a e : ℕ) → a * e * (a * e) ≡ a * a * (e * e)
regroup a e = mul-mul-mul_comm a e a e

pub below_middle : (n p s e : ℕ) → 0 < p → p * p < n + p → 4 * n * (e * e) < (s + 1) * (s + 1) → 2 * p * e ≤ s + e
below_middle n p s e z h k =
    let q = p - 1 in
    let a = 2 * q + 1 in
    let v : p ≡ q + 1 = omega arith in
    let w : p * p ≡ q * q + 2 * (q * 1) + 1 * 1 = ap (λ (x : ℕ). x * x) v ∙ sq_sum q 1 in
    let y : 2 * q * (2 * q) ≡ 4 * (q * q) = simp (mul_assoc, mul_left_comm) (omega arith) in
    let x : a * a ≤ 4 * n = omega (arith, sq_sum (2 * q) 1) in
    let l : a * e < s + 1 = sq_lt (a * e) (s + 1) (lt_of_le_of_lt (le_trans (le_of_eq (regroup a e)) (mul-le-mul_right (e * e) x)) k) in
    let g : 2 * p * e ≡ a * e + e = ap (λ (x : ℕ). x * e) (twice p q v) ∙ add-mul a 1 e ∙ ap (λ (x : ℕ). a * e + x) (one-mul e) in
    omega arith
  where
    twice : (p q : ℕ) → p ≡ q + 1 → 2 * p ≡ 2 * q + 1 + 1
    twice p q v = omega arith

pub above_middle : (n p s e : ℕ) → 0 < e → n ≤ p * p + p → s * s ≤ 4 * n * (e * e) → s < 2 * p * e + e
above_middle n p s e z h k =
    let b = 2 * p + 1 in
    let y : 2 * p * (2 * p) ≡ 4 * (p * p) = simp (mul_assoc, mul_left_comm) (omega arith) in
    let x : 4 * n < b * b = omega (arith, sq_sum (2 * p) 1) in
    let l : s < b * e = sq_lt s (b * e) (lt_of_le_of_lt k (lt_of_lt_of_le (mul-lt-mul_of_pos_right x (mul-pos z z)) (le_of_eq (sym (regroup b e))))) in
    omega (arith, add-mul (2 * p) 1 e)

pub root_low : (n s e : ℕ) → 2 ^ 46 ≤ n → 4 * n * (e * e) < (s + 1) * (s + 1) → 16777216 * e ≤ s
root_low n s e h k =
    let f : 16777216 * 16777216 ≤ 4 * n = omega arith in
    let l : 16777216 * e < s + 1 = sq_lt (16777216 * e) (s + 1) (lt_of_le_of_lt (le_trans (le_of_eq (regroup 16777216 e)) (mul-le-mul_right (e * e) f)) k) in
    omega arith

pub root_high : (n s e : ℕ) → 0 < e → n < 2 ^ 48 → s * s ≤ 4 * n * (e * e) → s < 33554432 * e
root_high n s e z h k = sq_lt s (33554432 * e) (lt_of_le_of_lt k (lt_of_lt_of_le (mul-lt-mul_of_pos_right (four n h) (mul-pos z z)) (le_of_eq (sym (regroup 33554432 e)))))
  where
    four : (n : ℕ) → n < 2 ^ 48 → 4 * n < 33554432 * 33554432
    four n h = omega arith

-- ---- the nearest root has 24 digits
pub near_low : (n p : ℕ) → 2 ^ 46 ≤ n → n ≤ p * p + p → 2 ^ 23 ≤ p
near_low n p h k = le_of_suc-le-suc (sq_lt' (p + 1) h k)
  where
    sq_lt' : (q : ℕ) → 2 ^ 46 ≤ n → n ≤ p * p + p → 8388608 < suc p
    sq_lt' q h k = lt_of_not-le (λ (g : suc p ≤ 8388608). clash (mul-le-mul g g))
      where
        clash : suc p * suc p ≤ 8388608 * 8388608 → ⊥
        clash l = omega (arith, sq_sum p 1, ap (λ (z : ℕ). z * z) (add-one p))

pub near_high : (n p : ℕ) → n ≤ 2 ^ 48 - 2 ^ 24 → p * p < n + p → p < 2 ^ 24
near_high n p h k = lt_of_not-le (λ (g : 16777216 ≤ p). clash (p - 16777216) (omega arith))
  where
    clash : (d : ℕ) → p ≡ 16777216 + d → ⊥
    clash d e = omega (arith, ap (λ (z : ℕ). z * z) e, sq_sum 16777216 d)
