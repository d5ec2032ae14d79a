-- Numbers of two's complement counted from their lowest allowed value, -l, up: l is added to the bits, which wrap. Assumes nothing.
use Rattle.std.proofs.Common.{◌≡◌, ℕ, zero, suc, ◌+◌, ◌-◌, ◌%◌, ◌^◌, ◌<◌, ◌≤◌, Bool, true, false, cond, not, ◌&&◌, T, ltb, leb, ℤ, pos, negsuc, ◌-ℤ◌, neg_ℤ, nat_abs, refl, sym, ap, ◌∙◌, arith, ltb→lt, leb→le, nltb→le, w32}
use lib.Dec.{nleb→lt}
use lib.IntN.{sub_ℕ}
use mir.Val.{sel}
use Rattle.std.specs.Int.{cast_signed, int_max}
use Rattle.whole_energy.specs.Input.{within, from_zero}

-- two tests that hold alike
alike : (a b c d : ℕ) → (a ≤ b → c ≤ d) → (c ≤ d → a ≤ b) → leb a b ≡ leb c d
alike a b c d f g = go (leb a b) (leb c d) (leb→le a b) (nleb→lt a b) (leb→le c d) (nleb→lt c d)
  where
    go : (x y : Bool) → (T x → a ≤ b) → (T (not x) → b < a) → (T y → c ≤ d) → (T (not y) → d < c) → x ≡ y
    go true true p q r s = refl
    go false false p q r s = refl
    go true false p q r s = absurd (clash (f (p tt)) (s tt))
      where
        clash : c ≤ d → d < c → ⊥
        clash h k = omega arith
    go false true p q r s = absurd (clash (g (r tt)) (q tt))
      where
        clash : a ≤ b → b < a → ⊥
        clash h k = omega arith

yes : (a b : ℕ) → a ≤ b → leb a b ≡ true
yes a b h = go (leb a b) (nleb→lt a b)
  where
    go : (x : Bool) → (T (not x) → b < a) → x ≡ true
    go true f = refl
    go false f = absurd (clash (f tt))
      where
        clash : b < a → ⊥
        clash k = omega arith

no : (a b : ℕ) → b < a → leb a b ≡ false
no a b h = go (leb a b) (leb→le a b)
  where
    go : (x : Bool) → (T x → a ≤ b) → x ≡ false
    go false f = refl
    go true f = absurd (clash (f tt))
      where
        clash : a ≤ b → ⊥
        clash k = omega arith

and_true : (b : Bool) → b && true ≡ b
and_true true = refl
and_true false = refl

-- ---- a number is within its limits where its count is
pub within_counted : (n l h : ℕ) → n < 2 ^ 32 → l ≤ 10000000 → h ≤ 10000000 → within (neg_ℤ (pos l)) (pos h) (cast_signed w32 n) ≡ leb ((n + l) % 2 ^ 32) (l + h)
within_counted n l h f i j = go (ltb n (2 ^ 31)) (ltb→lt n (2 ^ 31)) (nltb→le n (2 ^ 31)) l i
  where
    go :
        (b : Bool) → (T b → n < 2 ^ 31) → (T (not b) → 2 ^ 31 ≤ n) → (l : ℕ) → l ≤ 10000000 →
        within (neg_ℤ (pos l)) (pos h) (sel b (pos n) (negsuc (2 ^ 32 - suc n))) ≡ leb ((n + l) % 2 ^ 32) (l + h)
    go true p q zero i = let k = p tt in ap (λ (t : Bool). t && leb n h) (yes 0 n (omega arith)) ∙ alike n h ((n + 0) % 2 ^ 32) (0 + h) (λ a. omega arith) (λ a. omega arith)
    go true p q (suc l) i = let k = p tt in alike n h ((n + suc l) % 2 ^ 32) (suc l + h) (λ a. omega arith) (λ a. omega arith)
    go false p q zero i = let k = q tt in sym (no ((n + 0) % 2 ^ 32) (0 + h) (omega arith))
    go false p q (suc l) i = let k = q tt in and_true (leb (2 ^ 32 - suc n) l) ∙ alike (2 ^ 32 - suc n) l ((n + suc l) % 2 ^ 32) (suc l + h) (λ a. omega arith) (λ a. omega arith)

-- ---- z is a - l
abbrev pub Counted : ℕ → ℤ → ℕ → Type 0
Counted l (pos n) a = a ≡ n + l
Counted l (negsuc k) a = a + suc k ≡ l

pub counted : (n l h : ℕ) → n < 2 ^ 32 → l ≤ 10000000 → h ≤ 10000000 → (n + l) % 2 ^ 32 ≤ l + h → Counted l (cast_signed w32 n) ((n + l) % 2 ^ 32)
counted n l h f i j w = go (ltb n (2 ^ 31)) (ltb→lt n (2 ^ 31)) (nltb→le n (2 ^ 31))
  where
    go : (b : Bool) → (T b → n < 2 ^ 31) → (T (not b) → 2 ^ 31 ≤ n) → Counted l (sel b (pos n) (negsuc (2 ^ 32 - suc n))) ((n + l) % 2 ^ 32)
    go true p q = let k = p tt in omega arith
    go false p q = let k = q tt in omega arith

-- ---- differences and heights are those of the counts
abs_sub : (a b : ℕ) → nat_abs (sub_ℕ a b) ≡ a - b + (b - a)
abs_sub a b = go (ltb a b) (ltb→lt a b) (nltb→le a b)
  where
    go : (t : Bool) → (T t → a < b) → (T (not t) → b ≤ a) → nat_abs (cond t (negsuc (b - suc a)) (pos (a - b))) ≡ a - b + (b - a)
    go true p q = let k = p tt in omega arith
    go false p q = let k = q tt in omega arith

height_sub : (a b : ℕ) → from_zero (sub_ℕ a b) ≡ a - b
height_sub a b = go (ltb a b) (ltb→lt a b) (nltb→le a b)
  where
    go : (t : Bool) → (T t → a < b) → (T (not t) → b ≤ a) → from_zero (cond t (negsuc (b - suc a)) (pos (a - b))) ≡ a - b
    go true p q = let k = p tt in omega arith
    go false p q = let k = q tt in omega arith

pub distance_apart : (l : ℕ) (x y : ℤ) (a b : ℕ) → Counted l x a → Counted l y b → nat_abs (x -ℤ y) ≡ a - b + (b - a)
distance_apart l (pos n) (pos zero) a b p q = omega arith
distance_apart l (pos n) (pos (suc m)) a b p q = omega (arith, abs_sub n (suc m))
distance_apart l (pos n) (negsuc k) a b p q = omega arith
distance_apart l (negsuc k) (pos zero) a b p q = omega (arith, abs_sub 0 (suc k))
distance_apart l (negsuc k) (pos (suc m)) a b p q = omega arith
distance_apart l (negsuc k) (negsuc m) a b p q = omega (arith, abs_sub (suc m) (suc k))

pub climb_height : (l r : ℕ) (x : ℤ) (a : ℕ) → Counted l x a → from_zero (pos r -ℤ x) ≡ r + l - a
climb_height l r (pos zero) a p = omega arith
climb_height l r (pos (suc m)) a p = omega (arith, height_sub r (suc m))
climb_height l r (negsuc k) a p = omega arith

pub descent_height : (l r : ℕ) (x : ℤ) (a : ℕ) → Counted l x a → ((a ≤ r + l) → from_zero (int_max x (pos r)) ≡ r) × ((r + l < a) → from_zero (int_max x (pos r)) ≡ a - l)
descent_height l r (pos m) a p = (λ h. go (ltb r m) (ltb→lt r m) (nltb→le r m) h, λ h. high (ltb r m) (nltb→le r m) h)
  where
    go : (t : Bool) → (T t → r < m) → (T (not t) → m ≤ r) → a ≤ r + l → from_zero (cond t (pos m) (pos r)) ≡ r
    go true f g h = let k = f tt in omega arith
    go false f g h = refl

    high : (t : Bool) → (T (not t) → m ≤ r) → r + l < a → from_zero (cond t (pos m) (pos r)) ≡ a - l
    high true g h = omega arith
    high false g h = let k = g tt in omega arith
descent_height l r (negsuc k) a p = (λ h. refl, λ h. absurd (clash h))
  where
    clash : r + l < a → ⊥
    clash h = omega arith
