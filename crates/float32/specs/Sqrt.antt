-- The square root. Document 01, 'What changes shape': "the square root is the binary32 number nearest to the exact root, decided by comparing squares of whole numbers. ..
-- −0 gives −0, +infinity itself, a negative number or NaN gives NaN." (The sentence left out is on the way there: `subnormal_root` in the code.)
-- This is squareRoot of IEEE 754-2019 under roundTiesToEven. No exact root lies in the middle of two binary32 numbers, so the rule for ties is never asked.
-- `Nearest.antt` beside this says what nearest is, and proofs/SquareRoot.antt shows that `square_root` is that number. Assumes nothing.
use Rattle.std.specs.Prelude.{ℕ, zero, suc, ◌+◌, ◌*◌, ◌/◌, ◌^◌, true, false, cond, leb, Float}
use Rattle.std.specs.Float.{nan, inf, fin, binary32}
use Rattle.std.specs.Float.Ieee.{up, down, size, round}

-- The largest r with r * r ≤ n, for n below 4 ^ k: twice that of n / 4, or one more where the square of that is still at most n.
unfoldable pub isqrt_below : ℕ → ℕ → ℕ
isqrt_below zero n = 0
isqrt_below (suc k) n = let r = 2 * isqrt_below k (n / 4) in cond (leb ((r + 1) * (r + 1)) n) (r + 1) r

-- The largest r with r * r ≤ n. `size` counts binary digits, so n is below 2 ^ size n.
unfoldable pub isqrt : ℕ → ℕ
unfolding isqrt_below
isqrt n = isqrt_below (size n) n

-- The root of n / 2 ^ 200, rounded to binary32. It is cut after 100 binary places, and half a place is put on for what was cut off. No binary32 number near it, and no
-- middle of two of them, has so many places: what is nearest stays nearest.
unfoldable pub rounded_root : ℕ → Float
unfolding isqrt
rounded_root n = round binary32 false (2 * isqrt n + 1) (2 ^ 101)

-- Each binary32 number is a whole number of 2 ^ -149, so in the last line nothing is lost by the division.
unfoldable pub square_root : Float → Float
unfolding rounded_root
square_root nan = nan
square_root (inf s) = cond s nan (inf s)
square_root (fin s zero e) = fin s zero e
square_root (fin true (suc m) e) = nan
square_root (fin false (suc m) e) = rounded_root (suc m * up e * 2 ^ 200 / down e)
