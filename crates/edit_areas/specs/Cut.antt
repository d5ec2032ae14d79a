-- An edit from slice to slice: where the areas held are cut, and the frame of some bodies. Assumes nothing.
use Rattle.std.specs.Prelude.{ℕ, ◌+◌, min, Bool, false, cond, List, [], ◌∷◌, ◌++◌, eqb, ltb, length, Result, Ok, Err}
use Rattle.wire.specs.Frame.{frame_head}
use Rattle.frame_areas.specs.AreaFrame.{Sent}
use Rattle.frame_areas.specs.AreasFrame.{held_in, bodies_of}

-- the areas before the first whose number is not below n
unfoldable pub below : ℕ → List Sent → List Sent
below n [] = []
below n (a ∷ l) = cond (ltb a.number n) (a ∷ below n l) []

-- that one, and those behind it
unfoldable pub onward : ℕ → List Sent → List Sent
onward n [] = []
onward n (a ∷ l) = cond (ltb a.number n) (onward n l) (a ∷ l)

abbrev pub first_is : ℕ → List Sent → Bool
first_is n [] = false
first_is n (a ∷ l) = eqb a.number n

-- the byte of a frame where those begin
unfoldable pub cut_at : List ℕ → ℕ → ℕ
cut_at s n = min (length s) 5 + length (bodies_of (below n (held_in s)))

-- Ok where the first of them has number n
unfoldable pub place_of : List ℕ → ℕ → Result ℕ ℕ
place_of s n = cond (first_is n (onward n (held_in s))) (Ok (cut_at s n)) (Err (cut_at s n))

-- the frame of a kind whose body is a byte, a count or a number, and others behind it
unfoldable pub framed : ℕ → ℕ → List ℕ → List ℕ
framed kind n b = frame_head kind (3 + length b) ++ (n ∷ b)
