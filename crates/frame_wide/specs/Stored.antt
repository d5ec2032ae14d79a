-- What the functions of `frame_wide` store on the way to a whole frame. Assumes nothing.
use Rattle.std.specs.Prelude.{ℕ, zero, suc, ◌+◌, ◌*◌, min, List, [], ◌∷◌, ◌++◌, cond, eqb, take, drop, get_or}
use Rattle.wire.specs.Fields.{u8_at, number_at, le_bytes}

-- the numbers of eight bytes at these places
unfoldable pub numbers_at : List ℕ → List ℕ → List ℕ
numbers_at s [] = []
numbers_at s (p ∷ places) = number_at 8 s p ∷ numbers_at s places

-- the flag at p with its instant in four bytes, and so many bytes behind these; the same in eight
abbrev pub low_at : ℕ → List ℕ → ℕ → ℕ → List ℕ
low_at more s p x = u8_at s p ∷ (le_bytes 4 (cond (eqb (u8_at s p) 1) x (min (number_at 8 s (p + 1)) 1)) ++ take more (drop (p + 9) s))

abbrev pub high_at : ℕ → List ℕ → ℕ → ℕ → List ℕ
high_at more s p x = u8_at s p ∷ (le_bytes 8 (cond (eqb (u8_at s p) 1) x 0) ++ take more (drop (p + 5) s))

-- the first n timers of a state
unfoldable pub low_row : List ℕ → List ℕ → ℕ → List ℕ
low_row s given zero = []
low_row s given (suc n) = low_row s given n ++ low_at 0 s (6 + 9 * n) (get_or given n 0)

unfoldable pub high_row : List ℕ → List ℕ → ℕ → List ℕ
high_row s given zero = []
high_row s given (suc n) = high_row s given n ++ high_at 0 s (6 + 5 * n) (get_or given n 0)
