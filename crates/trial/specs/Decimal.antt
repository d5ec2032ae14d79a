-- A decimal number as an argument of the program `trials`: digits alone, at least one, and a value below 2^32. Assumes nothing.
use Rattle.std.specs.Prelude.{ℕ, ◌+◌, ◌-◌, ◌*◌, ◌^◌, cond, ◌&&◌, List, [], ◌∷◌, length, ◌==◌, nat_le, nat_lt, Option, Some, None}

-- a number with one digit more
unfoldable pub with_digit : ℕ → ℕ → Option ℕ
with_digit n c = cond (nat_le 48 c && (nat_le c 57 && nat_lt (n * 10 + (c - 48)) (2 ^ 32))) (Some (n * 10 + (c - 48))) None

abbrev pub and_digit : Option ℕ → ℕ → Option ℕ
and_digit None c = None
and_digit (Some n) c = with_digit n c

-- the digits that are left, after those that made a number
unfoldable pub digits_from : Option ℕ → List ℕ → Option ℕ
digits_from o [] = o
digits_from o (c ∷ cs) = digits_from (and_digit o c) cs

unfoldable pub read_decimal : List ℕ → Option ℕ
read_decimal s = cond (length s == 0) None (digits_from (Some 0) s)
