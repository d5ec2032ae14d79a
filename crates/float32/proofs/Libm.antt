-- What the tests of the float functions tell of a float, and the sign within its bits. Assumes nothing.
use mathlib.Core.Path.{◌≡◌, refl, sym, ap, subst, ◌∙◌}
use mathlib.Core.Bool.{Bool, true, false, not, cond, ◌&&◌, true≢false}
use Prim.Native.Nat.{ℕ, ◌+◌, ◌%◌, ◌^◌, ◌≤◌, ◌<◌}
use native.Mathlib.Omega.{arith}
use lib.Dec.{T}
use lib.Ieee.{Float, nan, inf, fin, binary32, fits, is_nan, neg, lt, ne, div, of_bits, to_bits, nan_bits}
use lib.Ieee.Bits.{of_bits-to_bits, to_bits-lt, nan_bits_is}
use lib.Ieee.Fits.{neg-fits}
use lib.Ieee.Compare.{differs_from_itself, nan_differs}
use Rattle.float32.specs.Libm.{is_finite, fabs, is_negative, fmax}

-- ---- NaN
pub zero_by_zero : div binary32 (of_bits binary32 0) (of_bits binary32 0) ≡ nan
unfolding div of_bits
zero_by_zero = refl

pub only_nan : (x : Float) → is_nan x ≡ true → x ≡ nan
unfolding is_nan
only_nan nan e = refl
only_nan (inf s) e = absurd (true≢false (sym e))
only_nan (fin s m k) e = absurd (true≢false (sym e))

pub differing : (x : Float) → ne x x ≡ true → x ≡ nan
differing x e = differs_from_itself x (subst T (sym e) tt)

pub no_nan : (x : Float) → ne x x ≡ false → T (not (is_nan x))
unfolding is_nan
no_nan nan e = subst T (sym nan_differs ∙ e) tt
no_nan (inf s) e = tt
no_nan (fin s m k) e = tt

-- ---- the sign: the highest of a float's 32 bits
fabs_fits : (x : Float) → T (fits binary32 x) → T (fits binary32 (fabs x))
unfolding fabs neg
fabs_fits nan h = h
fabs_fits (inf true) h = neg-fits binary32 (inf true) h
fabs_fits (inf false) h = h
fabs_fits (fin true m e) h = neg-fits binary32 (fin true m e) h
fabs_fits (fin false m e) h = h

-- what is left of the bits without the sign is below it, since the bits with the sign are below 2 ^ 32
pub record Signed (x : Float) : Type 0 where
  pub bits : to_bits binary32 x ≡ cond (is_negative x) (2 ^ 31) 0 + to_bits binary32 (fabs x)
  pub rest : to_bits binary32 (fabs x) < 2 ^ 31

pub signed : (x : Float) → T (fits binary32 x) → T (not (is_nan x)) → Signed x
unfolding is_nan is_negative fabs to_bits neg
signed nan h n = absurd n
signed (inf true) h n = record { bits = refl; rest = omega arith }
signed (inf false) h n = record { bits = refl; rest = omega arith }
signed (fin true m e) h n = record { bits = omega arith; rest = omega (arith, to_bits-lt binary32 (fin true m e) h) }
signed (fin false m e) h n = record { bits = omega arith; rest = omega (arith, to_bits-lt binary32 (fin true m e) (neg-fits binary32 (fin false m e) h)) }

pub sign_cleared : (x : Float) → T (fits binary32 x) → T (not (is_nan x)) → to_bits binary32 x % 2 ^ 31 ≡ to_bits binary32 (fabs x)
sign_cleared x h n = go (is_negative x) (signed x h n).bits (signed x h n).rest
  where
    go : (s : Bool) → to_bits binary32 x ≡ cond s (2 ^ 31) 0 + to_bits binary32 (fabs x) → to_bits binary32 (fabs x) < 2 ^ 31 → to_bits binary32 x % 2 ^ 31 ≡ to_bits binary32 (fabs x)
    go true e l = omega arith
    go false e l = omega arith

pub fabs_of_bits : (x : Float) → T (fits binary32 x) → T (not (is_nan x)) → of_bits binary32 (to_bits binary32 x % 2 ^ 31) ≡ fabs x
fabs_of_bits x h n = ap (of_bits binary32) (sign_cleared x h n) ∙ of_bits-to_bits binary32 (fabs x) (fabs_fits x h)

fabs_number : (x : Float) → is_nan (fabs x) ≡ is_nan x
unfolding is_nan fabs
fabs_number nan = refl
fabs_number (inf s) = refl
fabs_number (fin s m e) = refl

pub fabs_bits_number : (x : Float) → T (fits binary32 x) → T (not (is_nan x)) → T (not (nan_bits binary32 (to_bits binary32 x % 2 ^ 31)))
fabs_bits_number x h n =
    subst (λ (b : Bool). T (not b)) (sym (nan_bits_is binary32 (to_bits binary32 x % 2 ^ 31) ∙ ap is_nan (fabs_of_bits x h n) ∙ fabs_number x)) n

-- the bits of a number are below 2 ^ 31 exactly where it has no sign
pub plus_by_bits : (x : Float) → T (fits binary32 x) → T (not (is_nan x)) → to_bits binary32 x < 2 ^ 31 → is_negative x ≡ false
plus_by_bits x h n l = go (is_negative x) (signed x h n).bits
  where
    go : (s : Bool) → to_bits binary32 x ≡ cond s (2 ^ 31) 0 + to_bits binary32 (fabs x) → s ≡ false
    go true e = absurd (clash (to_bits binary32 (fabs x)) e)
      where
        clash : (r : ℕ) → to_bits binary32 x ≡ 2 ^ 31 + r → ⊥
        clash r e = omega arith
    go false e = refl

pub minus_by_bits : (x : Float) → T (fits binary32 x) → T (not (is_nan x)) → 2 ^ 31 ≤ to_bits binary32 x → is_negative x ≡ true
minus_by_bits x h n l = go (is_negative x) (signed x h n).bits (signed x h n).rest
  where
    go : (s : Bool) → to_bits binary32 x ≡ cond s (2 ^ 31) 0 + to_bits binary32 (fabs x) → to_bits binary32 (fabs x) < 2 ^ 31 → s ≡ true
    go true e r = refl
    go false e r = absurd (clash (to_bits binary32 (fabs x)) e r)
      where
        clash : (r : ℕ) → to_bits binary32 x ≡ 0 + r → r < 2 ^ 31 → ⊥
        clash r e k = omega arith

-- ---- finite: between the infinities
pub finite_between : (x : Float) → lt (neg (inf false)) x && lt x (inf false) ≡ is_finite x
unfolding neg lt is_finite
finite_between nan = refl
finite_between (inf true) = refl
finite_between (inf false) = refl
finite_between (fin s m e) = refl

-- ---- the larger of two
pub lt_numbers : (x y : Float) → lt x y ≡ true → (is_nan x ≡ false) × (is_nan y ≡ false)
unfolding lt is_nan
lt_numbers nan y e = absurd (true≢false (sym e))
lt_numbers (inf s) nan e = absurd (true≢false (sym e))
lt_numbers (inf s) (inf t) e = (refl, refl)
lt_numbers (inf s) (fin t n d) e = (refl, refl)
lt_numbers (fin s m k) nan e = absurd (true≢false (sym e))
lt_numbers (fin s m k) (inf t) e = (refl, refl)
lt_numbers (fin s m k) (fin t n d) e = (refl, refl)

pub fmax_below : (x y : Float) → lt x y ≡ true → fmax x y ≡ y
unfolding fmax
fmax_below x y l = rw ((lt_numbers x y l).0, (lt_numbers x y l).1, l)

pub fmax_above : (x y : Float) → lt x y ≡ false → lt y x ≡ true → fmax x y ≡ x
unfolding fmax
fmax_above x y l g = rw ((lt_numbers y x g).1, (lt_numbers y x g).0, l, g)

-- neither is below the other: the sign of x decides
pub fmax_plus : (x y : Float) → is_nan x ≡ false → lt x y ≡ false → lt y x ≡ false → is_negative x ≡ false → fmax x y ≡ x
unfolding fmax
fmax_plus x y n l g s = rw (n, l, g, s) (either (is_nan y))
  where
    either : (b : Bool) → cond b x x ≡ x
    either true = refl
    either false = refl

pub fmax_minus : (x y : Float) → is_nan x ≡ false → is_nan y ≡ false → lt x y ≡ false → lt y x ≡ false → is_negative x ≡ true → fmax x y ≡ y
unfolding fmax
fmax_minus x y n k l g s = rw (n, k, l, g, s)

-- ---- document 01: "`fmaxf` drops a NaN; of two unlike zeros it gives +0"
pub fmax_drops_left : (y : Float) → fmax nan y ≡ y
unfolding fmax is_nan
fmax_drops_left y = refl

pub fmax_drops_right : (x : Float) → fmax x nan ≡ x
unfolding fmax is_nan
fmax_drops_right nan = refl
fmax_drops_right (inf s) = refl
fmax_drops_right (fin s m e) = refl

pub fmax_of_zeros : (fmax (of_bits binary32 0x8000_0000) (of_bits binary32 0) ≡ of_bits binary32 0) × (fmax (of_bits binary32 0) (of_bits binary32 0x8000_0000) ≡ of_bits binary32 0)
unfolding fmax is_nan is_negative lt of_bits
fmax_of_zeros = (refl, refl)
