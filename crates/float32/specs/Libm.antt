-- The other functions on floats, of libm and of Rust's core: is_finite, fabsf, fmaxf. Assumes nothing.
use Rattle.std.specs.Prelude.{◌≡◌, refl, Bool, true, false, cond, Float}
use Rattle.std.specs.Float.{nan, inf, fin, binary32}
use Rattle.std.specs.Float.Ieee.{lt, is_nan, of_bits}

-- Rust's f32::is_finite: neither an infinity nor a NaN
unfoldable pub is_finite : Float → Bool
is_finite nan = false
is_finite (inf s) = false
is_finite (fin s m e) = true

-- libm's fabsf: the same number without its minus sign, so +0 for −0
unfoldable pub fabs : Float → Float
fabs nan = nan
fabs (inf s) = inf false
fabs (fin s m e) = fin false m e

pub fabs_of_minus_zero : fabs (of_bits binary32 0x8000_0000) ≡ of_bits binary32 0
unfolding fabs of_bits
fabs_of_minus_zero = refl

-- whether a number has the minus sign, as −0 has; a NaN has none
unfoldable pub is_negative : Float → Bool
is_negative nan = false
is_negative (inf s) = s
is_negative (fin s m e) = s

-- libm's fmaxf, the larger of two. Document 01, 'What changes shape': "`fmaxf` drops a NaN; of two unlike zeros it gives +0."
unfoldable pub fmax : Float → Float → Float
fmax x y =
    cond (is_nan x) y
    (cond (is_nan y) x
    (cond (lt x y) y
    (cond (lt y x) x
    (cond (is_negative x) y x))))
