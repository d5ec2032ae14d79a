-- A frame's bytes with its instants in eight bytes and in four. Assumes nothing.
use Rattle.std.specs.Prelude.{ℕ, zero, suc, ◌+◌, min, List, [], ◌∷◌, ◌++◌, Bool, true, cond, eqb, take, drop}
use Rattle.wire.specs.Fields.{u8_at, number_at, le_bytes}

-- A row of bytes is given with its gaps: for each instant, how many bytes stand before it and behind the one before. The last byte of a gap is the
-- instant's flag; an instant without a gap is always there.

-- whether the instant behind the first n bytes is there
abbrev pub is_held : ℕ → List ℕ → Bool
is_held zero s = true
is_held (suc n) s = eqb (u8_at s n) 1

-- the instants, of w bytes each
unfoldable pub instants_at : ℕ → List ℕ → List ℕ → List ℕ
instants_at w [] s = []
instants_at w (n ∷ gaps) s = number_at w s n ∷ instants_at w gaps (drop (n + w) s)

-- eight bytes into four: each instant that is there becomes the given number; one that is not there is 0, or 1 where it was not 0, so that it is refused as before
unfoldable pub narrowed : List ℕ → List ℕ → List ℕ → List ℕ
narrowed [] given s = s
narrowed (n ∷ gaps) [] s = s
narrowed (n ∷ gaps) (x ∷ given) s = take n s ++ (le_bytes 4 (cond (is_held n s) x (min (number_at 8 s n) 1)) ++ narrowed gaps given (drop (n + 8) s))

-- four bytes into eight: each instant that is there becomes the given number; one that is not there is 0
unfoldable pub widened : List ℕ → List ℕ → List ℕ → List ℕ
widened [] given s = s
widened (n ∷ gaps) [] s = s
widened (n ∷ gaps) (x ∷ given) s = take n s ++ (le_bytes 8 (cond (is_held n s) x 0) ++ widened gaps given (drop (n + 4) s))
