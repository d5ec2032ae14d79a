-- Bytes stored over bytes of 0. Assumes nothing.
use Rattle.std.specs.Prelude.{ℕ, ◌≡◌, List, [], ◌∷◌, Bool, true, cond, ◌&&◌, eqb, replicate}
use Rattle.std.proofs.lemmas.List.Edits.{sets}

-- each byte is 0
abbrev pub all_zero : List ℕ → Bool
all_zero [] = true
all_zero (x ∷ xs) = eqb x 0 && all_zero xs

-- the bytes b stored at i, but for bytes that are all 0 and so stand there already
abbrev pub laid : List ℕ → ℕ → List ℕ → List ℕ
laid l i b = cond (all_zero b) l (sets l i b)

-- the n bytes from i on are 0: zeros stored there change nothing
abbrev pub Blank : List ℕ → ℕ → ℕ → Type 0
Blank l i n = sets l i (replicate n 0) ≡ l
