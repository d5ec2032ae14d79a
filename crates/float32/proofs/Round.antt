-- `rounded_root` of a number 4 n E E, for n of 47 or 48 digits and E a power of two, has the significand p that is nearest to n's root; and its bits. Assumes nothing.
use mathlib.Core.Path.{◌≡◌, refl, sym, ap, subst, ◌∙◌}
use Prim.Native.Nat.{ℕ, zero, suc, ◌+◌, ◌-◌, ◌*◌, ◌/◌, ◌%◌, ◌^◌, ◌≤◌, ◌<◌, compare, Ordering}
use native.Mathlib.Nat.{le_trans, le_of_eq, le_antisymm, le_of_suc-le-suc, lt_of_lt_of_le, lt_of_not-le, not-le_of_lt, lt_of_mul-lt-mul_right, zero-lt-suc, mul-pos, mul_assoc, mul_left_comm, mul-div_cancel, mul-le-mul_right, mul-lt-mul_of_pos_right, div-add-mod', mod-lt, suc-mul, pow-succ'}
use native.Mathlib.Omega.{arith}
use mathlib.Core.Bool.{Bool, false, not, cond}
use lib.Arith.{lt_of_le-ne}
use lib.Dec.{T, is_le, compare_is_eq, leb→le, nleb→lt, eqb, eqb→eq, eqb_refl}
use lib.Pow.{pow-add, pow_pos, pow_mono}
use lib.Ieee.{Float, nan, inf, fin, binary32, up, down, size, nearest, units, round, of_bits, to_bits}
use lib.Ieee.Digits.{size-lt, size-le}
use lib.Ieee.Fits.{round_is, down_pos}
use lib.Ieee.Exact.{HasValue, units_val}
use lib.Ieee.Nearest.{closest, closest_same}
use Rattle.float32.specs.Sqrt.{isqrt, rounded_root, square_root}
use Rattle.float32.specs.Radicand.{radicand_of}
use Rattle.float32.proofs.Patterns.{high_root}
use Rattle.float32.proofs.Squares.{Near, isqrt_cut, below_middle, above_middle, root_low, root_high, near_low, near_high}

-- ---- the nearest whole number to a / b, from its two middles
abbrev Cmp : Ordering → ℕ → ℕ → Type 0
Cmp Ordering.lt a b = a < b
Cmp Ordering.eq a b = a ≡ b
Cmp Ordering.gt a b = b < a

cmp : (a b : ℕ) → Cmp (compare a b) a b
cmp a b = go (compare a b) (leb→le a b) (nleb→lt a b) (eqb→eq a b) (λ (e : a ≡ b). subst (λ (x : ℕ). T (eqb a x)) e (eqb_refl a))
  where
    go : (o : Ordering) → (T (is_le o) → a ≤ b) → (T (not (is_le o)) → b < a) → (T (compare_is_eq o) → a ≡ b) → (a ≡ b → T (compare_is_eq o)) → Cmp o a b
    go Ordering.lt h k e n = lt_of_le-ne (h tt) n
    go Ordering.eq h k e n = e tt
    go Ordering.gt h k e n = k tt

pub closest_is : (a b p : ℕ) → 0 < b → 2 * (p * b) < 2 * a + b → 2 * a < 2 * (p * b) + b → closest a b ≡ p
closest_is a b p B h k = go (compare (a % b * 2) b) (a / b) (a % b) (div-add-mod' a b) (mod-lt a B) (cmp (a % b * 2) b)
  where
    cancel : (x y : ℕ) → x * b < y * b + b → x ≤ y
    cancel x y g = le_of_suc-le-suc (lt_of_mul-lt-mul_right b (lt_of_lt_of_le g (le_of_eq (next y))))
      where
        next : (y : ℕ) → y * b + b ≡ suc y * b
        next y = sym (suc-mul y b)

    go : (o : Ordering) (w t : ℕ) → w * b + t ≡ a → t < b → Cmp o (t * 2) b → nearest w o ≡ p
    go Ordering.lt w t e l c = le_antisymm (cancel w p (omega arith)) (cancel p w (omega arith))
    go Ordering.eq w t e l c = absurd (not-le_of_lt (lt_of_mul-lt-mul_right b {m = w} {n = p} (omega arith)) (cancel p w (omega arith)))
    go Ordering.gt w t e l c = le_antisymm (lt_of_mul-lt-mul_right b {m = w} {n = p} (omega arith)) (cancel p (suc w) (omega (arith, sucmul w)))
      where
        sucmul : (y : ℕ) → suc y * b ≡ y * b + b
        sucmul y = suc-mul y b

-- ---- a number's digits
pub size_is : (n z : ℕ) → 2 ^ z ≤ n → n < 2 ^ suc z → size n ≡ suc z
size_is n z h k = le_antisymm (size-le n (suc z) k) (lt_of_not-le (λ (g : size n ≤ z). not-le_of_lt (lt_of_lt_of_le (size-lt n) (pow_mono g)) h))

-- ---- what `round` makes of a / 2 ^ 101
less_24 : (i z : ℕ) → z ≡ suc (73 + i) → z - 24 ≡ 50 + i
less_24 i z e = omega arith

pub round_at : (a p i : ℕ) → 33554432 * 2 ^ i ≤ a → a < 67108864 * 2 ^ i → 2 * (p * (4 * 2 ^ i)) < 2 * a + 4 * 2 ^ i → 2 * a < 2 * (p * (4 * 2 ^ i)) + 4 * 2 ^ i
    → round binary32 false a (2 ^ 101) ≡ units binary32 false p (50 + i)
round_at a p i lo hi h k =
    let E = 2 ^ i in
    let E_pos : 0 < E = pow_pos i in
    let d : a * 2 ^ 149 / 2 ^ 101 ≡ a * 2 ^ 48 = ap (λ (z : ℕ). z / 2 ^ 101) (sym (mul_assoc a (2 ^ 48) (2 ^ 101))) ∙ mul-div_cancel (a * 2 ^ 48) (pow_pos 101) in
    let w : 2 ^ (73 + i) ≡ 2 ^ 73 * 2 ^ i = pow-add 2 73 i in
    let z : size (a * 2 ^ 149 / 2 ^ 101) ≡ suc (73 + i) =
    ap size d ∙ size_is (a * 2 ^ 48) (73 + i) (omega arith) (omega (arith, pow-succ' 2 (73 + i))) in
    let v : a * 2 ^ 149 * (4 * E) ≡ a * (2 ^ 101 * 2 ^ (50 + i)) = mul_assoc a (2 ^ 149) (4 * E) ∙ ap (λ (y : ℕ). a * y) (powers i) in
    round_is binary32 false a (2 ^ 101)
    ∙ ap (λ (y : ℕ). units binary32 false (closest (a * 2 ^ 149) (2 ^ 101 * 2 ^ y)) y) (less_24 i (size (a * 2 ^ 149 / 2 ^ 101)) z)
    ∙ ap (λ (y : ℕ). units binary32 false y (50 + i))
    (closest_same (a * 2 ^ 149) (2 ^ 101 * 2 ^ (50 + i)) a (4 * E) (mul-pos (pow_pos 101) (pow_pos (50 + i))) (omega arith) v ∙ closest_is a (4 * E) p (omega arith) h k)
  where
    powers : (i : ℕ) → 2 ^ 149 * (4 * 2 ^ i) ≡ 2 ^ 101 * 2 ^ (50 + i)
    powers i = sym (mul_assoc (2 ^ 149) 4 (2 ^ i)) ∙ mul_assoc (2 ^ 101) (2 ^ 50) (2 ^ i) ∙ ap (λ (y : ℕ). 2 ^ 101 * y) (sym (pow-add 2 50 i))

pub rounded_root_is : (n p i : ℕ) → 2 ^ 46 ≤ n → n < 2 ^ 48 → 0 < p → p * p < n + p → n ≤ p * p + p → rounded_root (4 * n * (2 ^ i * 2 ^ i)) ≡ units binary32 false p (50 + i)
unfolding rounded_root
rounded_root_is n p i lo hi z h k =
    let E = 2 ^ i in
    let s = isqrt (4 * n * (E * E)) in
    let c = isqrt_cut (4 * n * (E * E)) in
    let l = root_low n s E lo c.1 in
    let g = root_high n s E (pow_pos i) hi c.0 in
    let b = below_middle n p s E z h c.1 in
    let a = above_middle n p s E (pow_pos i) k c.0 in
    let q : p * (4 * E) ≡ 4 * (p * E) = mul_left_comm p 4 E in
    let r : 2 * p * E ≡ 2 * (p * E) = mul_assoc 2 p E in
    round_at (2 * s + 1) p i (omega arith) (omega arith) (omega arith) (omega arith)

-- ---- the bits of p * 2 ^ k smallest values
kept_all : (k z : ℕ) → z ≡ suc (23 + k) → z - 24 ≡ k
kept_all k z e = omega arith

abbrev pub written : Bool → ℕ → ℕ
written t y = cond t (2 ^ 31) 0 + (size y - 24) * 2 ^ 23 + y / 2 ^ (size y - 24)

pub bits_are : (x : Float) (p k : ℕ) → HasValue x false (p * 2 ^ k) (2 ^ 149) → 2 ^ 23 ≤ p → p < 2 ^ 24 → to_bits binary32 x ≡ k * 2 ^ 23 + p
unfolding to_bits
bits_are nan p k v lo hi = absurd v
bits_are (inf s) p k v lo hi = absurd v
bits_are (fin s m e) p k v lo hi =
    let n : m * up e * 2 ^ 149 / down e ≡ p * 2 ^ k = ap (λ (z : ℕ). z / down e) v.1 ∙ mul-div_cancel (p * 2 ^ k) (down_pos e) in
    let w : 2 ^ (23 + k) ≡ 2 ^ 23 * 2 ^ k = pow-add 2 23 k in
    let z : size (p * 2 ^ k) ≡ suc (23 + k) = size_is (p * 2 ^ k) (23 + k) (le_trans (le_of_eq w) (mul-le-mul_right (2 ^ k) lo))
    (lt_of_lt_of_le (mul-lt-mul_of_pos_right hi (pow_pos k)) (le_of_eq (sym (pow-succ' 2 (23 + k) ∙ ap (λ (y : ℕ). 2 * y) w ∙ sym (mul_assoc 2 (2 ^ 23) (2 ^ k)))))) in
    ap (λ (t : Bool). written t (m * up e * 2 ^ 149 / down e)) v.0
    ∙ ap (λ (y : ℕ). written false y) n
    ∙ ap (λ (y : ℕ). 0 + y * 2 ^ 23 + p * 2 ^ k / 2 ^ y) (kept_all k (size (p * 2 ^ k)) z)
    ∙ ap (λ (y : ℕ). 0 + k * 2 ^ 23 + y) (mul-div_cancel p (pow_pos k))
    ∙ plain (k * 2 ^ 23) p
  where
    plain : (a b : ℕ) → 0 + a + b ≡ a + b
    plain a b = omega arith

-- ---- the bits of a root
pub root_bits : (n p i : ℕ) → 2 ^ 46 ≤ n → n ≤ 2 ^ 48 - 2 ^ 24 → p * p < n + p → n ≤ p * p + p → i ≤ 200 → to_bits binary32 (rounded_root (4 * n * (2 ^ i * 2 ^ i))) ≡ (50 + i) * 2 ^ 23 + p
root_bits n p i lo hi h k l =
    let a = near_low n p lo k in
    let b = near_high n p hi h in
    let room : p * 2 ^ (50 + i) < 2 ^ 277 = lt_of_lt_of_le (mul-lt-mul_of_pos_right b (pow_pos (50 + i))) (le_trans (le_of_eq (sym (pow-add 2 24 (50 + i)))) (pow_mono {i = 24 + (50 + i)} {j = 277} (omega arith))) in
    ap (to_bits binary32) (rounded_root_is n p i lo (omega arith) (omega arith) h k) ∙ bits_are (units binary32 false p (50 + i)) p (50 + i) (units_val binary32 false p (50 + i) room) a b

-- ---- q * 2 ^ g as such a number

even_scale : (q i : ℕ) → q * 2 ^ (26 + (i + i)) ≡ 4 * (q * 2 * 2 ^ 23) * (2 ^ i * 2 ^ i)
even_scale q i = ap (λ (y : ℕ). q * y) (pow-add 2 26 (i + i) ∙ ap (λ (y : ℕ). 2 ^ 26 * y) (pow-add 2 i i)) ∙ sym (mul_assoc q (2 ^ 26) (2 ^ i * 2 ^ i)) ∙ ap (λ (y : ℕ). y * (2 ^ i * 2 ^ i)) (same q)
  where
    same : (q : ℕ) → q * 2 ^ 26 ≡ 4 * (q * 2 * 2 ^ 23)
    same q = omega arith

odd_scale : (q i : ℕ) → q * 2 ^ (25 + (i + i)) ≡ 4 * (q * 1 * 2 ^ 23) * (2 ^ i * 2 ^ i)
odd_scale q i = ap (λ (y : ℕ). q * y) (pow-add 2 25 (i + i) ∙ ap (λ (y : ℕ). 2 ^ 25 * y) (pow-add 2 i i)) ∙ sym (mul_assoc q (2 ^ 25) (2 ^ i * 2 ^ i)) ∙ ap (λ (y : ℕ). y * (2 ^ i * 2 ^ i)) (same q)
  where
    same : (q : ℕ) → q * 2 ^ 25 ≡ 4 * (q * 1 * 2 ^ 23)
    same q = omega arith

pub scale : (q g : ℕ) → 28 ≤ g → q * 2 ^ g ≡ 4 * (q * (2 - g % 2) * 2 ^ 23) * (2 ^ ((g - 25) / 2) * 2 ^ ((g - 25) / 2))
scale q g h = go (g % 2) refl
  where
    i : ℕ
    i = (g - 25) / 2

    is_even : g % 2 ≡ 0 → g ≡ 26 + ((g - 25) / 2 + (g - 25) / 2)
    is_even e = omega arith

    is_odd : (r : ℕ) → g % 2 ≡ suc r → g ≡ 25 + ((g - 25) / 2 + (g - 25) / 2)
    is_odd r e = omega arith

    is_one : (r : ℕ) → g % 2 ≡ suc r → 2 - suc r ≡ 1
    is_one r e = omega arith

    go : (r : ℕ) → g % 2 ≡ r → q * 2 ^ g ≡ 4 * (q * (2 - r) * 2 ^ 23) * (2 ^ ((g - 25) / 2) * 2 ^ ((g - 25) / 2))
    go zero e = ap (λ (y : ℕ). q * 2 ^ y) (is_even e) ∙ even_scale q ((g - 25) / 2)
    go (suc r) e = ap (λ (y : ℕ). q * 2 ^ y) (is_odd r e) ∙ odd_scale q ((g - 25) / 2) ∙ ap (λ (y : ℕ). 4 * (q * y * 2 ^ 23) * (2 ^ ((g - 25) / 2) * 2 ^ ((g - 25) / 2))) (sym (is_one r e))

-- the bounds of what `nearest_root` is handed
pub handed : (q g : ℕ) → 2 ^ 23 ≤ q → q < 2 ^ 24 → (2 ^ 23 ≤ q * (2 - g % 2)) × (q * (2 - g % 2) ≤ 2 * q)
handed q g lo hi = go (g % 2) (mod-lt g {m = 2} (zero-lt-suc 1))
  where
    go : (r : ℕ) → r < 2 → (2 ^ 23 ≤ q * (2 - r)) × (q * (2 - r) ≤ 2 * q)
    go zero h = (omega arith, omega arith)
    go (suc r) h =
        let e : 2 - suc r ≡ 1 = omega arith in
        subst (λ (y : ℕ). (2 ^ 23 ≤ q * y) × (q * y ≤ 2 * q)) (sym e) (omega arith, omega arith)

-- the same from a normal number's bits
pub radicand_bounds : (b : ℕ) → (2 ^ 23 ≤ radicand_of b) × (radicand_of b ≤ 2 ^ 25 - 2)
unfolding radicand_of
radicand_bounds b =
    let h = handed (b % 2 ^ 23 + 2 ^ 23) (b / 2 ^ 23 + 50) (omega arith) (omega arith) in
    (h.0, omega arith)

-- so the nearest root has at most 24 digits
pub root_digits : (b p : ℕ) → Near (radicand_of b * 2 ^ 23) p → p < 2 ^ 24
root_digits b p k = near_high (radicand_of b * 2 ^ 23) p (omega (arith, (radicand_bounds b).1)) k.0

pub doubled : (b : ℕ) → b % 2 ^ 24 < 2 ^ 23 → 2 * (b % 2 ^ 24) + 2 ^ 24 ≡ radicand_of b
unfolding radicand_of
doubled b h =
    let e : (b / 2 ^ 23 + 50) % 2 ≡ 0 = omega arith in
    subst (λ (y : ℕ). 2 * (b % 2 ^ 24) + 2 ^ 24 ≡ (b % 2 ^ 23 + 2 ^ 23) * (2 - y)) (sym e) (omega arith)

pub single : (b : ℕ) → 2 ^ 23 ≤ b % 2 ^ 24 → b % 2 ^ 24 ≡ radicand_of b
unfolding radicand_of
single b h =
    let e : (b / 2 ^ 23 + 50) % 2 ≡ 1 = omega arith in
    subst (λ (y : ℕ). b % 2 ^ 24 ≡ (b % 2 ^ 23 + 2 ^ 23) * (2 - y)) (sym e) (omega arith)

-- the bits that `root_of` hands over have the digits q and the parity of g
pub moved : (q g : ℕ) → 2 ^ 23 ≤ q → q < 2 ^ 24 → 28 ≤ g → radicand_of (q + (g - 3) * 8388608) ≡ q * (2 - g % 2)
unfolding radicand_of
moved q g lo hi h =
    let b = q + (g - 3) * 8388608 in
    let d : b % 2 ^ 23 + 2 ^ 23 ≡ q = omega arith in
    let f : b / 2 ^ 23 ≡ g - 2 = omega arith in
    let e : (b / 2 ^ 23 + 50) % 2 ≡ g % 2 = ap (λ (y : ℕ). (y + 50) % 2) f ∙ even_apart g h in
    ap (λ (y : ℕ). y * (2 - (b / 2 ^ 23 + 50) % 2)) d ∙ ap (λ (y : ℕ). q * (2 - y)) e
  where
    even_apart : (g : ℕ) → 28 ≤ g → (g - 2 + 50) % 2 ≡ g % 2
    even_apart g h = omega arith

pub root_of_bits : (q g p : ℕ) → (2 ^ 23 ≤ q) × (q < 2 ^ 24) × (28 ≤ g) × (g ≤ 304) → (p * p < q * (2 - g % 2) * 2 ^ 23 + p) × (q * (2 - g % 2) * 2 ^ 23 ≤ p * p + p)
    → (g + 75) / 2 * 8388608 + p ≡ to_bits binary32 (rounded_root (q * 2 ^ g))
root_of_bits q g p h k =
    let d = handed q g h.0 h.1 in
    let n = q * (2 - g % 2) * 2 ^ 23 in
    let e : (g + 75) / 2 * 8388608 + p ≡ (50 + (g - 25) / 2) * 2 ^ 23 + p = omega arith in
    e ∙ sym (ap (λ (y : ℕ). to_bits binary32 (rounded_root y)) (scale q g h.2) ∙ root_bits n p ((g - 25) / 2) (omega arith) (omega arith) k.0 k.1 (omega arith))

pub normal_root_bits : (b p : ℕ) → (2 ^ 23 ≤ b) × (b < 255 * 2 ^ 23) → Near (radicand_of b * 2 ^ 23) p
    → (b + 0x3e80_0000) / 16777216 * 8388608 + p ≡ to_bits binary32 (square_root (of_bits binary32 b))
unfolding radicand_of
normal_root_bits b p h k =
    let q = b % 2 ^ 23 + 2 ^ 23 in
    let g = b / 2 ^ 23 + 50 in
    let r = root_of_bits q g p (omega arith, omega arith, omega arith, omega arith) k in
    let low : (b + 0x3e80_0000) / 16777216 * 8388608 ≡ (g + 75) / 2 * 8388608 = omega arith in
    ap (λ (y : ℕ). y + p) low ∙ r ∙ ap (to_bits binary32) (sym (high_root b h.0 h.1))
