-- The whole number whose root `sqrtf` works out, and what a guess at such a root is worth. Assumes nothing.
use Rattle.std.specs.Prelude.{ℕ, ◌+◌, ◌-◌, ◌*◌, ◌/◌, ◌%◌, ◌^◌, ◌≤◌}

-- The 24 digits of the normal number with the bits b, doubled where its exponent is even. Times 2 ^ 23 it is that number but for an even power of two, so the two roots
-- have the same digits.
unfoldable pub radicand_of : ℕ → ℕ
radicand_of b = (b % 2 ^ 23 + 2 ^ 23) * (2 - (b / 2 ^ 23 + 50) % 2)

-- 8 * z as a guess at the root of 128 * m: the mean of it and 128 * m / (8 * z), which is Heron's next guess, is 4 * z + 8 * m / z, and at most 9 above the root. (It is never
-- below it, but for what the division cuts off.)
unfoldable pub MeanNear : ℕ → ℕ → Type 0
MeanNear m z = (4 * z + 8 * m / z - 9) * (4 * z + 8 * m / z - 9) ≤ 128 * m
