-- Two binary32 numbers that compare as equal are one, or both are zero. Assumes nothing.
use Prim.Native.Nat.{ℕ, zero, suc, ◌+◌, ◌*◌, ◌^◌, ◌%◌, ◌<◌}
use native.Mathlib.Nat.{mul_assoc, mul-one, mul_left_comm, mul-pos, eq_of_mul-eq-mul_right, zero-lt-suc, pow-suc, pow-succ', one-mul}
use native.Mathlib.Omega.{arith}
use mathlib.Core.Path.{◌≡◌, refl, sym, ap, ◌∙◌}
use mathlib.Core.Bool.{Bool, true, false, cond, ◌&&◌, ◌||◌, beq, false≢true, and-eq-true_iff}
use mathlib.Core.Logic.{◌⊎◌, inl, inr}
use lib.IntN.{ℤ, pos, negsuc}
use lib.Dec.{ltb, leb, eqb}
use lib.Pow.{pow_pos, pow-add}
use lib.Ieee.{Float, nan, inf, fin, binary32, up, down, fits, eq, level, of_bits}
use lib.Ieee.Fits.{up_pos, down_pos}
use borrow.Author.Tests.{eqb-true, ne_eqb}
use Rattle.rings.specs.Corner.{plain_number}
use Rattle.float32.specs.Binary32.{zero_f}

-- the kit's own (lib.Ieee.Back), which are private there
even_odd : (m t : ℕ) → m % 2 ≡ 1 → m ≡ 2 * t → ⊥
even_odd m t o h = omega arith

odd_pow : (m n a b : ℕ) → m % 2 ≡ 1 → n % 2 ≡ 1 → m * 2 ^ a ≡ n * 2 ^ b → (m ≡ n) × (a ≡ b)
odd_pow m n zero zero o p h = (sym (mul-one m) ∙ h ∙ mul-one n, refl)
odd_pow m n zero (suc b) o p h = absurd (even_odd m (n * 2 ^ b) o (sym (mul-one m) ∙ h ∙ ap (λ (x : ℕ). n * x) (pow-succ' 2 b) ∙ mul_left_comm n 2 (2 ^ b)))
odd_pow m n (suc a) zero o p h = absurd (even_odd n (m * 2 ^ a) p (sym (mul-one n) ∙ sym h ∙ ap (λ (x : ℕ). m * x) (pow-succ' 2 a) ∙ mul_left_comm m 2 (2 ^ a)))
odd_pow m n (suc a) (suc b) o p h =
    let r = odd_pow m n a b o p (eq_of_mul-eq-mul_right 2 (zero-lt-suc 1) (m * 2 ^ a) (n * 2 ^ b)
    (mul_assoc m (2 ^ a) 2 ∙ ap (λ (x : ℕ). m * x) (sym (pow-suc 2 a)) ∙ h ∙ ap (λ (x : ℕ). n * x) (pow-suc 2 b) ∙ sym (mul_assoc n (2 ^ b) 2))) in
    (r.0, ap suc r.1)

-- an odd number times a power of two is written in one way
odd_unique : (m n : ℕ) (e d : ℤ) → m % 2 ≡ 1 → n % 2 ≡ 1 → m * up e * down d ≡ n * up d * down e → (m ≡ n) × (e ≡ d)
odd_unique m n (pos a) (pos b) o p h =
    let r = odd_pow m n a b o p (sym (mul-one (m * 2 ^ a)) ∙ h ∙ mul-one (n * 2 ^ b)) in
    (r.0, ap pos r.1)
odd_unique m n (pos a) (negsuc b) o p h =
    let r = odd_pow m n (a + suc b) 0 o p (ap (λ (x : ℕ). m * x) (pow-add 2 a (suc b)) ∙ sym (mul_assoc m (2 ^ a) (2 ^ suc b)) ∙ h ∙ mul-one (n * 1)) in
    absurd (omega (arith, r.1))
odd_unique m n (negsuc a) (pos b) o p h =
    let r = odd_pow n m (b + suc a) 0 p o (ap (λ (x : ℕ). n * x) (pow-add 2 b (suc a)) ∙ sym (mul_assoc n (2 ^ b) (2 ^ suc a)) ∙ sym h ∙ mul-one (m * 1)) in
    absurd (omega (arith, r.1))
odd_unique m n (negsuc a) (negsuc b) o p h =
    let r = odd_pow m n (suc b) (suc a) o p (ap (λ (x : ℕ). x * 2 ^ suc b) (sym (mul-one m)) ∙ h ∙ ap (λ (x : ℕ). x * 2 ^ suc a) (mul-one n)) in
    let ab : a ≡ b = omega (arith, r.1) in
    (r.0, ap negsuc ab)

is_odd : (s : Bool) (m : ℕ) (e : ℤ) → fits binary32 (fin s (suc m) e) ≡ true → suc m % 2 ≡ 1
unfolding fits
is_odd s m e t =
    let a = eqb (suc m % 2) 1 in
    let b = ltb (suc m) (2 ^ 24) in
    let c = leb (down e) (2 ^ 149) in
    let d = ltb (suc m * up e) (2 ^ 128 * down e) in
    eqb-true (suc m % 2) 1 ((and-eq-true_iff a b).0 ((and-eq-true_iff (a && b) c).0 ((and-eq-true_iff (a && b && c) d).0 t).0).0).0

flat : (e : ℤ) → up e * down e ≡ 1 → e ≡ pos 0
flat (pos zero) h = refl
flat (pos (suc k)) h = let p = pow_pos k in let q : 2 ^ suc k ≡ 1 = sym (mul-one (2 ^ suc k)) ∙ h in absurd (omega arith)
flat (negsuc k) h = let p = pow_pos k in let q : 2 ^ suc k ≡ 1 = sym (one-mul (2 ^ suc k)) ∙ h in absurd (omega arith)

is_zero : (s : Bool) (e : ℤ) → fits binary32 (fin s zero e) ≡ true → eq (fin s zero e) zero_f ≡ true
unfolding fits eq of_bits
is_zero s e t = rw (flat e (eqb-true (up e * down e) 1 t)) (by s)
  where
    by : (s : Bool) → eq (fin s zero (pos 0)) zero_f ≡ true
    by true = refl
    by false = refl

signs : (s t b : Bool) → beq s t || b ≡ true → b ≡ false → s ≡ t
signs true true b h f = refl
signs false false b h f = refl
signs true false b h f = absurd (false≢true (sym f ∙ h))
signs false true b h f = absurd (false≢true (sym f ∙ h))

level_says : (s : Bool) (a : ℕ) (t : Bool) (b : ℕ) → level s a t b ≡ true → (a ≡ b) × (0 < a → s ≡ t)
level_says s a t b h =
    let f = (and-eq-true_iff (eqb a b) (beq s t || eqb a 0)).0 h in
    (eqb-true a b f.0, λ p. signs s t (eqb a 0) f.1 (ne_eqb a 0 (λ e. omega arith)))

size_pos : (m : ℕ) (e d : ℤ) → 0 < suc m * up e * down d
size_pos m e d = mul-pos (mul-pos (zero-lt-suc m) (up_pos e)) (down_pos d)

no_size : (a b : ℕ) → 0 * a * b ≡ 0
no_size a b = omega arith

pub unique : (x y : Float) → fits binary32 x ≡ true → fits binary32 y ≡ true → eq x y ≡ true → (x ≡ y) ⊎ ((eq x zero_f ≡ true) × (eq y zero_f ≡ true))
unfolding eq
unique nan y p q h = absurd (false≢true h)
unique (inf s) nan p q h = absurd (false≢true h)
unique (inf true) (inf true) p q h = inl refl
unique (inf true) (inf false) p q h = absurd (false≢true h)
unique (inf false) (inf true) p q h = absurd (false≢true h)
unique (inf false) (inf false) p q h = inl refl
unique (inf s) (fin t n d) p q h = absurd (false≢true h)
unique (fin s m e) nan p q h = absurd (false≢true h)
unique (fin s m e) (inf t) p q h = absurd (false≢true h)
unique (fin s zero e) (fin t zero d) p q h = inr (is_zero s e p, is_zero t d q)
unique (fin s zero e) (fin t (suc n) d) p q h =
    let r = level_says s (0 * up e * down d) t (suc n * up d * down e) h in
    absurd (omega (arith, r.0, size_pos n d e, no_size (up e) (down d)))
unique (fin s (suc m) e) (fin t zero d) p q h =
    let r = level_says s (suc m * up e * down d) t (0 * up d * down e) h in
    absurd (omega (arith, r.0, size_pos m e d, no_size (up d) (down e)))
unique (fin s (suc m) e) (fin t (suc n) d) p q h =
    let r = level_says s (suc m * up e * down d) t (suc n * up d * down e) h in
    let u = odd_unique (suc m) (suc n) e d (is_odd s m e p) (is_odd t n d q) r.0 in
    let st : s ≡ t = r.1 (size_pos m e d) in
    inl (λ i. fin (st i) (u.0 i) (u.1 i))

-- "every −0 as 0"
zero_plain : (x : Float) → eq x zero_f ≡ true → plain_number x ≡ zero_f
unfolding plain_number
zero_plain x h = ap (λ (b : Bool). cond b zero_f x) h

-- so with −0 as 0 they are one
pub plain_unique : (x y : Float) → fits binary32 x ≡ true → fits binary32 y ≡ true → eq x y ≡ true → plain_number x ≡ plain_number y
plain_unique x y p q h = by (unique x y p q h)
  where
    by : (x ≡ y) ⊎ ((eq x zero_f ≡ true) × (eq y zero_f ≡ true)) → plain_number x ≡ plain_number y
    by (inl e) = ap plain_number e
    by (inr e) = zero_plain x e.0 ∙ sym (zero_plain y e.1)
