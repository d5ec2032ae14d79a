-- It doesn't matter how the input is cut into blocks. Assumes nothing.
use Rattle.std.specs.Prelude.{ℕ, ◌<◌, ◌≤◌, List, [], ◌∷◌, ◌++◌, ◌≡◌, length}
use Rattle.stream.specs.declared.Due.{Due}
use Rattle.stream.specs.Stream.{end_bytes}
use Rattle.decided.specs.Decided.{decided}
use Rattle.decided.specs.Program.{Pending, turn, next, started}

-- all that is written from there on, where these blocks are read and then the input ends
pub data Writes (size : ℕ) : Pending → List (List ℕ) → List ℕ → Type 0 where
  over : (p : Pending) (blocks : List (List ℕ)) → p.now.due ≡ Due.Nothing → Writes size p blocks []
  answers : (p : Pending) (blocks : List (List ℕ)) (more : List ℕ) → 0 < (turn size p.now p.rest).taken
      → Writes size (next size p []) blocks more → Writes size p blocks ((turn size p.now p.rest).bytes ++ more)
  reads : (p : Pending) (block : List ℕ) (blocks : List (List ℕ)) (more : List ℕ) → (turn size p.now p.rest).taken ≡ 0
      → Writes size (next size p block) blocks more → Writes size p (block ∷ blocks) more
  ends : (p : Pending) → (turn size p.now p.rest).taken ≡ 0 → Writes size p [] (end_bytes p.now.due (length p.rest))

-- the input that the blocks make up
unfoldable pub joined : List (List ℕ) → List ℕ
joined [] = []
joined (block ∷ blocks) = block ++ joined blocks

-- it doesn't matter how the input is cut into blocks: every way to cut it has its run, and every run writes `decided` of the whole, where the output block has room
-- for an answer
pub record BlocksClaim : Type 0 where
  pub some : (size : ℕ) (blocks : List (List ℕ)) → 95 ≤ size → Writes size started blocks (decided (joined blocks))
  pub only : (size : ℕ) (blocks : List (List ℕ)) (written : List ℕ) → 95 ≤ size → Writes size started blocks written → written ≡ decided (joined blocks)
