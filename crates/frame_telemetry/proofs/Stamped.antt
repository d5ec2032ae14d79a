-- Three stores in a row: a flag, a stamp and a value. Assumes nothing.
use Prim.Native.Nat.{ℕ, ◌+◌}
use mathlib.Core.Path.{◌≡◌, ◌∙◌, ap}
use mathlib.Core.List.{List, ◌++◌}
use mathlib.Core.Bool.{Bool}
use native.Mathlib.Omega.{arith}
use lib.Seq.{sets}
use Rattle.wire.specs.Fields.{le_flag, le_bytes, le32}
use Rattle.wire.proofs.Stores.{joined}

pub stamped : {m n r : List ℕ} (l : List ℕ) (at : ℕ) (b : Bool) (t : ℕ) (v : List ℕ) → m ≡ sets l at (le_flag b) → n ≡ sets m (at + 1) (le32 t) → r ≡ sets n (at + 5) v
    → r ≡ sets l at (le_flag b ++ (le32 t ++ v))
unfolding le_flag le32 le_bytes
stamped {m} {n} l at b t v e f g =
    let five : at + 5 ≡ at + 1 + 4 = omega arith in
    joined l at (le_flag b) (le32 t ++ v) e (joined m (at + 1) (le32 t) v f (g ∙ ap (λ (k : ℕ). sets n k v) five))
