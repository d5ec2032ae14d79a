-- Document 01, 'time': ages and freshness on whole numbers modulo 2 ^ 32. Assumes nothing.
use Rattle.std.specs.Prelude.{ℕ, ◌+◌, ◌-◌, ◌%◌, ◌^◌, Bool, false, cond, nat_le, nat_lt, Option, Some, None}

-- a - b modulo 2 ^ 32
unfoldable pub wrapping_sub : ℕ → ℕ → ℕ
wrapping_sub a b = (a + (2 ^ 32 - b)) % 2 ^ 32

-- the clock of 32 bits, which wraps, and the one of 64 bits, which doesn't
pub data Clock : Type 0 where
  wrapping : Clock
  plain : Clock

-- the term 'age': "Age is now minus then by wrapping subtraction, absent from 2^31 up."; on the other clock "absent only where the stamp is later than now"
unfoldable pub age : Clock → ℕ → ℕ → Option ℕ
age wrapping now then = cond (nat_lt (wrapping_sub now then) (2 ^ 31)) (Some (wrapping_sub now then)) None
age plain now then = cond (nat_lt now then) None (Some (now - then))

abbrev pub at_most : Option ℕ → ℕ → Bool
at_most None limit = false
at_most (Some a) limit = nat_le a limit

abbrev pub at_least : Option ℕ → ℕ → Bool
at_least None limit = false
at_least (Some a) limit = nat_le limit a

-- the term 'fresh': "Fresh: age at most the limit."
unfoldable pub fresh : Clock → ℕ → ℕ → ℕ → Bool
fresh clock now t limit = at_most (age clock now t) limit

-- "its hold is met from the limit to under 2^31, and is unmet again beyond"
unfoldable pub hold_met : Clock → ℕ → ℕ → ℕ → Bool
hold_met clock now since hold = at_least (age clock now since) hold
