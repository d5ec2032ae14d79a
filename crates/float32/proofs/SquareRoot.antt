-- `square_root` is squareRoot of IEEE 754-2019, for every binary32 value: the theorem for a finite number above zero, then each other case, then three instances. Assumes nothing.
use mathlib.Core.Path.{◌≡◌, refl, sym, ap, subst, ◌∙◌}
use mathlib.Core.Bool.{true, false, true≢false}
use Prim.Native.Nat.{ℕ, zero, suc, ◌+◌, ◌*◌, ◌^◌, ◌<◌}
use native.Mathlib.Omega.{arith}
use native.Mathlib.Nat.{zero-mul, zero-lt-suc}
use lib.Dec.{T, ltb→lt, lt→ltb}
use lib.Ieee.{Float, nan, inf, fin, binary32, up, down, fits, lt, of_bits, to_bits, round}
use lib.Ieee.Positive.{positive, above}
use Rattle.float32.specs.Libm.{is_finite, is_negative}
use Rattle.float32.specs.Sqrt.{square_root}
use Rattle.float32.specs.Nearest.{Units, NearestRoot}
use Rattle.float32.proofs.Patterns.{is_above}
use Rattle.float32.proofs.Nearest.{root_nearest, nearest_unique, scaled}

finite_above : (x : Float) → is_finite x ≡ true → T (above x) → T (positive x)
unfolding is_finite
finite_above nan f a = absurd a
finite_above (inf s) f a = absurd (true≢false (sym f))
finite_above (fin true m e) f a = absurd a
finite_above (fin false m e) f a = a

-- For every binary32 value x that is finite and above zero (bits 0): `square_root x` is the binary32 number nearest to the exact root, and is the only one.
pub square_root_is_nearest : (x : Float) → T (fits binary32 x) → is_finite x ≡ true → lt (of_bits binary32 0) x ≡ true → NearestRoot x (square_root x) × ((r : Float) → NearestRoot x r → r ≡ square_root x)
square_root_is_nearest x h f l =
    let p = finite_above x f (is_above x l) in
    (root_nearest x h p, λ r n. nearest_unique x r h p n)

-- `NearestRoot` compares with every finite binary32 number that has no minus sign: each is a whole number of units.
pub every_number_is_units : (y : Float) → T (fits binary32 y) → is_finite y ≡ true → is_negative y ≡ false → (Y : ℕ) × Units y Y
unfolding is_finite is_negative
every_number_is_units nan h f n = absurd (true≢false (sym f))
every_number_is_units (inf s) h f n = absurd (true≢false (sym f))
every_number_is_units (fin true m e) h f n = absurd (true≢false n)
every_number_is_units (fin false zero e) h f n = (0, (refl, ap (λ (a : ℕ). a * 2 ^ 149) (zero-mul (up e)) ∙ zero-mul (2 ^ 149) ∙ sym (zero-mul (down e))))
every_number_is_units (fin false (suc m) e) h f n = let s = scaled (fin false (suc m) e) h (lt→ltb 0 (suc m) (zero-lt-suc m)) in (s.X, s.is)

-- "−0 gives −0": bits 80000000
pub of_minus_zero : square_root (of_bits binary32 0x8000_0000) ≡ of_bits binary32 0x8000_0000
unfolding square_root of_bits
of_minus_zero = refl

pub of_plus_zero : square_root (of_bits binary32 0) ≡ of_bits binary32 0
unfolding square_root of_bits
of_plus_zero = refl

-- "+infinity itself"
pub of_plus_infinity : square_root (inf false) ≡ inf false
unfolding square_root
of_plus_infinity = refl

-- "a negative number or NaN gives NaN": whatever is below zero, −infinity too
pub of_negative : (x : Float) → lt x (of_bits binary32 0) ≡ true → square_root x ≡ nan
unfolding square_root lt of_bits
of_negative nan l = refl
of_negative (inf true) l = refl
of_negative (inf false) l = absurd (true≢false (sym l))
of_negative (fin true zero e) l = absurd (none (ltb→lt 0 (0 * up e * 1 + 0 * 1 * down e) (subst T (sym l) tt)))
  where
    none : 0 < 0 * up e * 1 + 0 * 1 * down e → ⊥
    none h = omega (arith, zero-mul (up e), zero-mul (down e))
of_negative (fin false zero e) l = absurd (none (ltb→lt (0 * up e * 1) (0 * 1 * down e) (subst T (sym l) tt)))
  where
    none : 0 * up e * 1 < 0 * 1 * down e → ⊥
    none h = omega (arith, zero-mul (down e))
of_negative (fin true (suc m) e) l = refl
of_negative (fin false (suc m) e) l = absurd (none (ltb→lt (suc m * up e * 1) (0 * 1 * down e) (subst T (sym l) tt)))
  where
    none : suc m * up e * 1 < 0 * 1 * down e → ⊥
    none h = omega (arith, zero-mul (down e))

pub of_nan : square_root nan ≡ nan
unfolding square_root
of_nan = refl

-- Document 01, 'Table of proved instances': "root of 250,000; of 2 | 500; bits 3FB504F3", "root of bits 00000001 | bits 1A3504F3"
pub of_250000 : square_root (of_bits binary32 0x4874_2400) ≡ of_bits binary32 0x43fa_0000
unfolding square_root of_bits round
of_250000 = refl

pub of_2 : to_bits binary32 (square_root (of_bits binary32 0x4000_0000)) ≡ 0x3fb5_04f3
unfolding square_root of_bits to_bits round
of_2 = refl

pub of_least : to_bits binary32 (square_root (of_bits binary32 0x0000_0001)) ≡ 0x1a35_04f3
unfolding square_root of_bits to_bits round
of_least = refl
