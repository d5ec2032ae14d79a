-- The whole square root. Assumes nothing.
use Rattle.std.specs.Prelude.{ℕ, zero, suc, ◌+◌, ◌*◌, ◌<◌, ◌≤◌, cond, nat_le}

-- the largest number whose square is not above n: that of the number before, or one more where the square of that is still not above
unfoldable pub whole_root : ℕ → ℕ
whole_root zero = 0
whole_root (suc n) = cond (nat_le ((whole_root n + 1) * (whole_root n + 1)) (suc n)) (whole_root n + 1) (whole_root n)

-- what it is to be that number; proofs/Root.antt shows that `whole_root n` is, and nothing else
abbrev pub WholeRoot : ℕ → ℕ → Type 0
WholeRoot n r = (r * r ≤ n) × (n < (r + 1) * (r + 1))
