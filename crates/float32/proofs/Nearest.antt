-- The steps of the theorem of SquareRoot.antt: the nearest whole number p to the root of a scaled x, and how every binary32 number lies to the two middles beside p. Assumes nothing.
use mathlib.Core.Path.{◌≡◌, sym, ap, subst, ◌∙◌}
use mathlib.Core.Logic.{◌⊎◌, inl, inr}
use Prim.Native.Nat.{ℕ, zero, suc, ◌+◌, ◌-◌, ◌*◌, ◌/◌, ◌%◌, ◌^◌, ◌≤◌, ◌<◌, zero-le}
use native.Mathlib.Nat.{le_refl, le_trans, le_of_eq, le_of_lt, lt_of_lt_of_le, lt_of_le_of_lt, lt_of_not-le, not-le_of_lt, lt_irrefl, zero-lt-suc, mul-pos, mul-one, zero-mul, mul_comm, mul_assoc, mul_right_comm, mul-mul-mul_comm, add-mul, mul-div_cancel, mul-le-mul, mul-le-mul_right, mul-lt-mul_of_pos_right, lt_of_mul-lt-mul_right, eq_of_mul-eq-mul_right, eq-zero-or-pos, eq-or-lt_of_le, add_comm, le_antisymm, le_of_suc-le-suc}
use native.Mathlib.Omega.{arith}
use mathlib.Core.Bool.{Bool, true, false, not}
use lib.IntN.{ℤ}
use lib.Dec.{T, leb, leb→le, nleb→lt}
use lib.Count.{count_leading_zeros}
use lib.Pow.{pow-add, pow_pos, pow_mono}
use lib.Ieee.{Float, nan, inf, fin, binary32, up, down, units, fits, of_bits, to_bits}
use lib.Ieee.Bits.{of_bits-to_bits}
use lib.Ieee.Fits.{down_pos}
use lib.Ieee.Exact.{units_val}
use lib.Ieee.Positive.{positive, above, positive_of_value}
use Rattle.float32.specs.Sqrt.{isqrt, rounded_root, square_root}
use Rattle.float32.specs.Nearest.{Units, NearestRoot}
use Rattle.float32.proofs.Squares.{isqrt_cut, sq_sum, settle, settle_low, near_low, near_high}
use Rattle.float32.proofs.Round.{rounded_root_is, scale, handed, written}
use Rattle.float32.proofs.Patterns.{low_value, high_value, shifted, low_root, high_root, root_fits, pattern_pos, top_only}

-- ---- the pattern of a finite number above zero
above_of : (x : Float) → T (positive x) → T (above x)
above_of nan p = absurd p
above_of (inf s) p = absurd p
above_of (fin true m e) p = absurd p
above_of (fin false m e) p = p

no_top : T (positive (of_bits binary32 (255 * 2 ^ 23))) → ⊥
unfolding of_bits
no_top p = p

pub pattern : (x : Float) → T (fits binary32 x) → T (positive x) → (0 < to_bits binary32 x) × (to_bits binary32 x < 255 * 2 ^ 23)
pattern x f p =
    let b = to_bits binary32 x in
    let o = of_bits-to_bits binary32 x f in (
      pattern_pos x f (above_of x p),
      lt_of_not-le (λ (g : 255 * 2 ^ 23 ≤ b). no_top (subst (λ (y : Float). T (positive y)) (sym o ∙ ap (of_bits binary32) (top_only b g (subst (λ (y : Float). T (above y)) (sym o) (above_of x p)))) p)),
    )

-- ---- as significand and exponent: x is q * 2 ^ g / 2 ^ 200, and X * 2 ^ 51 is q * 2 ^ g
pub record Scaled (x : Float) : Type 0 where
  pub X : ℕ
  pub q : ℕ
  pub g : ℕ
  pub is : Units x X
  pub root : square_root x ≡ rounded_root (q * 2 ^ g)
  pub same : X * 2 ^ 51 ≡ q * 2 ^ g
  pub q_low : 2 ^ 23 ≤ q
  pub q_high : q < 2 ^ 24
  pub g_low : 28 ≤ g
  pub g_high : g ≤ 304

scaled_bits : (b : ℕ) → 0 < b → b < 255 * 2 ^ 23 → Scaled (of_bits binary32 b)
scaled_bits b p h = go (leb (2 ^ 23) b) (leb→le (2 ^ 23) b) (nleb→lt (2 ^ 23) b)
  where
    fifty : (z : ℕ) → z ≤ 23 → 51 ≡ z + (51 - z)
    fifty z l = omega arith

    go : (t : Bool) → (T t → 2 ^ 23 ≤ b) → (T (not t) → b < 2 ^ 23) → Scaled (of_bits binary32 b)
    go true y n =
        let f = b / 2 ^ 23 in
        let q = 2 ^ 23 + b % 2 ^ 23 in
        let l = y tt in
        let e : f - 1 + 51 ≡ f + 50 = omega arith in
        let c : q ≡ b % 2 ^ 23 + 2 ^ 23 = omega arith in
        record {
          X = q * 2 ^ (f - 1);
          q = b % 2 ^ 23 + 2 ^ 23;
          g = f + 50;
          is = high_value b l h;
          root = high_root b l h;
          same = mul_assoc q (2 ^ (f - 1)) (2 ^ 51) ∙ ap (λ (y : ℕ). q * y) (sym (pow-add 2 (f - 1) 51) ∙ ap (λ (y : ℕ). 2 ^ y) e) ∙ ap (λ (y : ℕ). y * 2 ^ (f + 50)) c;
          q_low = omega arith;
          q_high = omega arith;
          g_low = omega arith;
          g_high = omega arith;
        }
    go false y n =
        let z = count_leading_zeros 32 b - 8 in
        let s = shifted b p (n tt) in
        record {
          X = b;
          q = b * 2 ^ z;
          g = 51 - z;
          is = low_value b (n tt);
          root = low_root b z p (n tt) s.1;
          same = ap (λ (y : ℕ). b * 2 ^ y) (fifty z s.1) ∙ ap (λ (y : ℕ). b * y) (pow-add 2 z (51 - z)) ∙ sym (mul_assoc b (2 ^ z) (2 ^ (51 - z)));
          q_low = s.2;
          q_high = s.3;
          g_low = omega arith;
          g_high = omega arith;
        }

pub scaled : (x : Float) → T (fits binary32 x) → T (positive x) → Scaled x
scaled x f p = subst Scaled (of_bits-to_bits binary32 x f) (scaled_bits (to_bits binary32 x) (pattern x f p).0 (pattern x f p).1)

-- ---- every n has a nearest root
pub nearest_root : (n : ℕ) → 0 < n → (p : ℕ) × (p * p < n + p) × (n ≤ p * p + p)
nearest_root n h =
    let c = isqrt_cut n in
    go (isqrt n) c.0 c.1
  where
    go : (s : ℕ) → s * s ≤ n → n < (s + 1) * (s + 1) → (p : ℕ) × (p * p < n + p) × (n ≤ p * p + p)
    go s a b =
        let v = n - s * s in
        let e : n + 0 ≡ s * s + v = omega arith in
        let w : v < 0 + 2 * s + 1 = omega (arith, sq_sum s 1) in
        pick (leb v s) (leb→le v s) (nleb→lt v s) e w
      where
        nonzero : (s v : ℕ) → v ≤ s → n + 0 ≡ s * s + v → 0 < s
        nonzero zero v a e = absurd (lt_irrefl 0 (lt_of_lt_of_le h (le_trans (omega (arith, zero-mul 0)) a)))
        nonzero (suc s) v a e = zero-lt-suc s

        pick : (t : Bool) → (T t → n - s * s ≤ s) → (T (not t) → s < n - s * s) → n + 0 ≡ s * s + (n - s * s) → n - s * s < 0 + 2 * s + 1 → (p : ℕ) × (p * p < n + p) × (n ≤ p * p + p)
        pick true y f e w = let t = settle_low n s 0 (n - s * s) e zero-le (nonzero s (n - s * s) (y tt) e) (omega (arith, y tt)) in (s, t.0, t.1)
        pick false y f e w = let t = settle n s 0 (n - s * s) e zero-le w (omega (arith, f tt)) in (s + 1, t.0, t.1)

-- ---- x is n * D * D and its root is p * D, in a common scale
pub record Found (x : Float) : Type 0 where
  pub X : ℕ
  pub n : ℕ
  pub p : ℕ
  pub k : ℕ
  pub is : Units x X
  pub root : Units (square_root x) (p * 2 ^ k)
  pub same : X * 2 ^ 149 ≡ n * (2 ^ k * 2 ^ k)
  pub n_low : 2 ^ 46 ≤ n
  pub p_low : 2 ^ 23 ≤ p
  pub below : p * p < n + p
  pub above : n ≤ p * p + p

pub found : (x : Float) → T (fits binary32 x) → T (positive x) → Found x
found x f pos = go (scaled x f pos)
  where
    go : Scaled x → Found x
    go s =
        let q = s.q in
        let g = s.g in
        let i = (g - 25) / 2 in
        let n = q * (2 - g % 2) * 2 ^ 23 in
        let d = handed q g s.q_low s.q_high in
        let lo : 2 ^ 46 ≤ n = omega arith in
        let hi : n ≤ 2 ^ 48 - 2 ^ 24 = omega arith in
        let r = nearest_root n (omega arith) in
        let p = r.0 in
        let a = near_low n p lo r.2 in
        let b = near_high n p hi r.1 in
        let u : square_root x ≡ units binary32 false p (50 + i) = s.root ∙ ap rounded_root (scale q g s.g_low) ∙ rounded_root_is n p i lo (omega arith) (omega arith) r.1 r.2 in
        let room : p * 2 ^ (50 + i) < 2 ^ 277 = lt_of_lt_of_le (mul-lt-mul_of_pos_right b (pow_pos (50 + i))) (le_trans (le_of_eq (sym (pow-add 2 24 (50 + i)))) (pow_mono {i = 24 + (50 + i)} {j = 277} (omega arith))) in
        record {
          X = s.X;
          n = n;
          p = p;
          k = 50 + i;
          is = s.is;
          root = subst (λ (y : Float). Units y (p * 2 ^ (50 + i))) (sym u) (units_val binary32 false p (50 + i) room);
          same = sym (mul_assoc s.X (2 ^ 51) (2 ^ 98)) ∙ ap (λ (y : ℕ). y * 2 ^ 98) (s.same ∙ scale q g s.g_low) ∙ common n i;
          n_low = lo;
          p_low = a;
          below = r.1;
          above = r.2;
        }
      where
        common : (n i : ℕ) → 4 * n * (2 ^ i * 2 ^ i) * 2 ^ 98 ≡ n * (2 ^ (50 + i) * 2 ^ (50 + i))
        common n i =
            let A = 2 ^ i * 2 ^ i in
            mul_right_comm (4 * n) A (2 ^ 98)
            ∙ ap (λ (y : ℕ). y * A) (ap (λ (y : ℕ). y * 2 ^ 98) (mul_comm 4 n) ∙ mul_assoc n 4 (2 ^ 98))
            ∙ mul_assoc n (2 ^ 100) A
            ∙ ap (λ (y : ℕ). n * y) (sym (mul-mul-mul_comm (2 ^ 50) (2 ^ i) (2 ^ 50) (2 ^ i)) ∙ ap (λ (y : ℕ). y * y) (sym (pow-add 2 50 i)))

-- ---- the two middles, by squares
lower_sq : (n p : ℕ) → 0 < p → p * p < n + p → (2 * p - 1) * (2 * p - 1) < 4 * n
lower_sq n p z h =
    let q = p - 1 in
    let e : 2 * p - 1 ≡ 2 * q + 1 = omega arith in
    let v : p ≡ q + 1 = omega arith in
    let w : p * p ≡ q * q + 2 * (q * 1) + 1 * 1 = ap (λ (x : ℕ). x * x) v ∙ sq_sum q 1 in
    let y : 2 * q * (2 * q) ≡ 4 * (q * q) = mul-mul-mul_comm 2 q 2 q in
    subst (λ (x : ℕ). x * x < 4 * n) (sym e) (omega (arith, sq_sum (2 * q) 1))

upper_sq : (n p : ℕ) → n ≤ p * p + p → 4 * n < (2 * p + 1) * (2 * p + 1)
upper_sq n p h =
    let y : 2 * p * (2 * p) ≡ 4 * (p * p) = mul-mul-mul_comm 2 p 2 p in
    omega (arith, sq_sum (2 * p) 1)

-- a square of a D, below 4 n D D
scaled_lt : (a m D : ℕ) → 0 < D → a * a < m → a * D * (a * D) < m * (D * D)
scaled_lt a m D z h = lt_of_le_of_lt (le_of_eq (mul-mul-mul_comm a D a D)) (mul-lt-mul_of_pos_right h (mul-pos z z))

scaled_gt : (a m D : ℕ) → 0 < D → m < a * a → m * (D * D) < a * D * (a * D)
scaled_gt a m D z h = lt_of_lt_of_le (mul-lt-mul_of_pos_right h (mul-pos z z)) (le_of_eq (sym (mul-mul-mul_comm a D a D)))

four : (a n d : ℕ) → a ≡ n * d → 4 * a ≡ 4 * n * d
four a n d e = ap (λ (x : ℕ). 4 * x) e ∙ sym (mul_assoc 4 n d)

-- ---- every binary32 number beside it
units_unique : (y : Float) (A B : ℕ) → Units y A → Units y B → A ≡ B
units_unique nan A B u v = absurd u
units_unique (inf s) A B u v = absurd u
units_unique (fin s m e) A B u v = eq_of_mul-eq-mul_right (down e) (down_pos e) A B (sym u.1 ∙ v.1)

-- a number of less than 24 digits at k, or a multiple of 2 ^ k
abbrev Grid : ℕ → ℕ → Type 0
Grid Y k = (Y < 2 ^ 23 * 2 ^ k) ⊎ ((w : ℕ) × (Y ≡ w * 2 ^ k))

grid_power : (q v k : ℕ) → q < 2 ^ 24 → Grid (q * 2 ^ v) k
grid_power q v k h = go (leb k v) (leb→le k v) (nleb→lt k v)
  where
    go : (t : Bool) → (T t → k ≤ v) → (T (not t) → v < k) → Grid (q * 2 ^ v) k
    go true y n = inr (q * 2 ^ (v - k), ap (λ (z : ℕ). q * 2 ^ z) (back v k (y tt)) ∙ ap (λ (z : ℕ). q * z) (pow-add 2 (v - k) k) ∙ sym (mul_assoc q (2 ^ (v - k)) (2 ^ k)))
      where
        back : (v k : ℕ) → k ≤ v → v ≡ v - k + k
        back v k l = omega arith
    go false y n =
        inl (lt_of_lt_of_le (mul-lt-mul_of_pos_right h (pow_pos v))
        (le_trans (le_of_eq (sym (pow-add 2 24 v))) (le_trans (pow_mono {i = 24 + v} {j = 23 + k} (omega (arith, n tt))) (le_of_eq (pow-add 2 23 k)))))

grid_bits : (b Y k : ℕ) → 0 < b → b < 255 * 2 ^ 23 → Units (of_bits binary32 b) Y → Grid Y k
grid_bits b Y k p h u = go (leb (2 ^ 23) b) (leb→le (2 ^ 23) b) (nleb→lt (2 ^ 23) b)
  where
    go : (t : Bool) → (T t → 2 ^ 23 ≤ b) → (T (not t) → b < 2 ^ 23) → Grid Y k
    go true y n =
        subst (λ (z : ℕ). Grid z k) (units_unique (of_bits binary32 b) ((2 ^ 23 + b % 2 ^ 23) * 2 ^ (b / 2 ^ 23 - 1)) Y (high_value b (y tt) h) u)
        (grid_power (2 ^ 23 + b % 2 ^ 23) (b / 2 ^ 23 - 1) k (omega arith))
    go false y n =
        let e = units_unique (of_bits binary32 b) b Y (low_value b (n tt)) u in
        inl (lt_of_lt_of_le (subst (λ (z : ℕ). z < 2 ^ 23) e (n tt)) (le_trans (le_of_eq (sym (mul-one (2 ^ 23)))) (mul-le-mul (le_refl (2 ^ 23)) (pow_pos k))))

grid : (y : Float) (Y k : ℕ) → T (fits binary32 y) → Units y Y → Grid Y k
grid y Y k f u = elim (eq-zero-or-pos Y) [
  | inl e ↦ inl (subst (λ (z : ℕ). z < 2 ^ 23 * 2 ^ k) (sym e) (mul-pos (pow_pos 23) (pow_pos k)))
  | inr p ↦
      (let t = pattern y f (positive_of_value y Y (2 ^ 149) u p) in
      grid_bits (to_bits binary32 y) Y k t.0 t.1 (subst (λ (z : Float). Units z Y) (sym (of_bits-to_bits binary32 y f)) u))
]

sq_strict : (a b : ℕ) → a < b → a * a < b * b
sq_strict a b h = lt_of_le_of_lt (mul-le-mul (le_refl a) (le_of_lt h)) (mul-lt-mul_of_pos_right h (lt_of_le_of_lt zero-le h))

-- the middle of a smaller Y and p D is at most the lower middle
below_grid : (Y p n D : ℕ) → 0 < D → 2 ^ 46 ≤ n → 2 ^ 23 ≤ p → p * p < n + p → Y < p * D → (Y < 2 ^ 23 * D) ⊎ ((w : ℕ) × (Y ≡ w * D)) → (Y + p * D) * (Y + p * D) < 4 * n * (D * D)
below_grid Y p n D z lo pl h l g = go g
  where
    low : Y + p * D ≤ (2 * p - 1) * D → (Y + p * D) * (Y + p * D) < 4 * n * (D * D)
    low a = lt_of_le_of_lt (mul-le-mul a a) (scaled_lt (2 * p - 1) (4 * n) D z (lower_sq n p (omega arith) h))

    sum : (w : ℕ) → w + 1 ≤ p → w * D + p * D ≤ (2 * p - 1) * D
    sum w a = le_trans (le_of_eq (sym (add-mul w p D))) (mul-le-mul_right D (fits' w a))
      where
        fits' : (w : ℕ) → w + 1 ≤ p → w + p ≤ 2 * p - 1
        fits' w a = omega arith

    at_least : p ≡ 2 ^ 23 → (Y + p * D) * (Y + p * D) < 4 * n * (D * D)
    at_least e =
        let t : p * p ≤ n = subst (λ (x : ℕ). x * x ≤ n) (sym e) lo in
        let d : Y + p * D < 2 * p * D = omega (arith, mul_assoc 2 p D) in
        let f : 2 * p * (2 * p) ≤ 4 * n = le_trans (le_of_eq (mul-mul-mul_comm 2 p 2 p)) (omega arith) in
        lt_of_lt_of_le (sq_strict (Y + p * D) (2 * p * D) d) (le_trans (le_of_eq (mul-mul-mul_comm (2 * p) D (2 * p) D)) (mul-le-mul_right (D * D) f))

    go : (Y < 2 ^ 23 * D) ⊎ ((w : ℕ) × (Y ≡ w * D)) → (Y + p * D) * (Y + p * D) < 4 * n * (D * D)
    go (inl a) = elim (eq-or-lt_of_le pl) [
      | inl e ↦ at_least (sym e)
      | inr k ↦ low (le_trans (le_of_lt (less a)) (sum (2 ^ 23) (omega (arith, k))))
    ]
      where
        less : Y < 2 ^ 23 * D → Y + p * D < 2 ^ 23 * D + p * D
        less a = omega arith
    go (inr (w, e)) =
        let a : w < p = lt_of_mul-lt-mul_right D {m = w} {n = p} (subst (λ (x : ℕ). x < p * D) e l) in
        low (subst (λ (x : ℕ). x + p * D ≤ (2 * p - 1) * D) (sym e) (sum w (omega arith)))

above_grid : (Y p n D : ℕ) → 0 < D → 2 ^ 23 ≤ p → n ≤ p * p + p → p * D < Y → (Y < 2 ^ 23 * D) ⊎ ((w : ℕ) × (Y ≡ w * D)) → 4 * n * (D * D) < (Y + p * D) * (Y + p * D)
above_grid Y p n D z pl h l (inl a) = absurd (not-le_of_lt (lt_of_lt_of_le a (mul-le-mul_right D pl)) (le_of_lt l))
above_grid Y p n D z pl h l (inr (w, e)) =
    let a : p < w = lt_of_mul-lt-mul_right D {m = p} {n = w} (subst (λ (x : ℕ). p * D < x) e l) in
    let b : 2 * p + 1 ≤ w + p = omega arith in
    let c : (2 * p + 1) * D ≤ Y + p * D = le_trans (mul-le-mul_right D b) (le_of_eq (add-mul w p D ∙ ap (λ (x : ℕ). x + p * D) (sym e))) in
    lt_of_lt_of_le (scaled_gt (2 * p + 1) (4 * n) D z (upper_sq n p h)) (mul-le-mul c c)

pub root_nearest : (x : Float) → T (fits binary32 x) → T (positive x) → NearestRoot x (square_root x)
root_nearest x h p = go (found x h p)
  where
    go : Found x → NearestRoot x (square_root x)
    go f =
        let D = 2 ^ f.k in
        let e = four (f.X * 2 ^ 149) f.n (D * D) f.same in
        record {
          X = f.X;
          R = f.p * D;
          x_is = f.is;
          r_is = f.root;
          held = root_fits x h;
          from_below = λ y Y k u l. lt_of_lt_of_le (below_grid Y f.p f.n D (pow_pos f.k) f.n_low f.p_low f.below l (grid y Y f.k k u)) (le_of_eq (sym e));
          from_above = λ y Y k u l. lt_of_le_of_lt (le_of_eq e) (above_grid Y f.p f.n D (pow_pos f.k) f.p_low f.above l (grid y Y f.k k u));
        }

-- ---- there is one such number only
bits_by_units : (y z : Float) (Y : ℕ) → Units y Y → Units z Y → to_bits binary32 y ≡ to_bits binary32 z
unfolding to_bits
bits_by_units nan z Y u v = absurd u
bits_by_units (inf s) z Y u v = absurd u
bits_by_units (fin s m e) nan Y u v = absurd v
bits_by_units (fin s m e) (inf t) Y u v = absurd v
bits_by_units (fin s m e) (fin t n d) Y u v =
    ap (λ (b : Bool). written b (m * up e * 2 ^ 149 / down e)) (u.0 ∙ sym v.0)
    ∙ ap (λ (a : ℕ). written t a) (whole m e u ∙ sym (whole n d v))
  where
    whole : {s : Bool} (m : ℕ) (e : ℤ) → Units (fin s m e) Y → m * up e * 2 ^ 149 / down e ≡ Y
    whole m e u = ap (λ (a : ℕ). a / down e) u.1 ∙ mul-div_cancel Y (down_pos e)

same_number : (y z : Float) (Y Z : ℕ) → T (fits binary32 y) → T (fits binary32 z) → Units y Y → Units z Z → Y ≡ Z → y ≡ z
same_number y z Y Z f g u v e =
    sym (of_bits-to_bits binary32 y f) ∙ ap (of_bits binary32) (bits_by_units y z Z (subst (Units y) e u) v) ∙ of_bits-to_bits binary32 z g

-- a nearest root of x is `square_root x`
pub nearest_unique : (x r : Float) → T (fits binary32 x) → T (positive x) → NearestRoot x r → r ≡ square_root x
nearest_unique x r f p a = go (root_nearest x f p)
  where
    go : NearestRoot x (square_root x) → r ≡ square_root x
    go b =
        let e : a.X ≡ b.X = units_unique x a.X b.X a.x_is b.x_is in
        same_number r (square_root x) a.R b.R a.held b.held a.r_is b.r_is (meet a.R b.R (λ l. clash e l) (λ l. clash' e l))
      where
        swap : (s t : ℕ) → (s + t) * (s + t) ≡ (t + s) * (t + s)
        swap s t = ap (λ (z : ℕ). z * z) (add_comm s t)

        apart : (s t u v : ℕ) → s < u → v < t → s ≡ t → u ≡ v → ⊥
        apart s t u v g h p q = omega arith

        clash : a.X ≡ b.X → a.R < b.R → ⊥
        clash e l =
            let g = b.from_below r a.R a.held a.r_is l in
            let h = a.from_above (square_root x) b.R b.held b.r_is l in
            apart _ _ _ _ g h (swap a.R b.R) (ap (λ (z : ℕ). 4 * (z * 2 ^ 149)) (sym e))

        clash' : a.X ≡ b.X → b.R < a.R → ⊥
        clash' e l =
            let g = a.from_below (square_root x) b.R b.held b.r_is l in
            let h = b.from_above r a.R a.held a.r_is l in
            apart _ _ _ _ g h (swap b.R a.R) (ap (λ (z : ℕ). 4 * (z * 2 ^ 149)) e)

        meet : (s t : ℕ) → (s < t → ⊥) → (t < s → ⊥) → s ≡ t
        meet s t c d = le_antisymm (le_of_suc-le-suc (lt_of_not-le d)) (le_of_suc-le-suc (lt_of_not-le c))
