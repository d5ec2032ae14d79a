-- The wrapping difference as std's contract says it is the one of specs/Time.antt. Assumes nothing.
use Rattle.std.proofs.Common.{◌≡◌, ℕ, ◌+◌, ◌%◌, ◌^◌, ◌<◌, arith}
use Rattle.time.specs.Time.{wrapping_sub}

pub wraps : (r a b : ℕ) → r < 2 ^ 32 → a < 2 ^ 32 → b < 2 ^ 32 → (r + b) % 2 ^ 32 ≡ a → r ≡ wrapping_sub a b
unfolding wrapping_sub
wraps r a b hr ha hb e = omega arith
