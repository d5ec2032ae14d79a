-- A frame written into a slice of just its length. Assumes nothing.
use native.Mathlib.Omega.{arith}
use mathlib.Core.List.{List, append-nil}
use mathlib.Core.Path.{◌≡◌, ◌∙◌, ap, refl}
use borrow.Author.Tests.{le-ltb}
use Prim.Native.Nat.{ℕ, ◌+◌}
use mathlib.Core.Bool.{Bool, true, false}
use lib.ListN.{length, take, replicate}
use Rattle.std.specs.Prelude.{Ok, ◌++◌, min}
use Rattle.std.proofs.lemmas.List.{drop_all, length-take}
use Rattle.supervisor.specs.declared.Supervisor.{Supervisor}
use Rattle.frame_state.specs.StateFrame.{state_length, state_frame}
use Rattle.frame_state.proofs.Size.{size}
use Rattle.wire.specs.Frame.{check_room, frame_written}

pub room : (f s : List ℕ) → length s ≡ length f → check_room f s ≡ Ok tt
unfolding check_room
room f s h = rw (le-ltb (length s) (length f) (omega arith)) (λ i. Ok tt)

pub filled : (f s : List ℕ) → length s ≡ length f → frame_written f s ≡ f
unfolding frame_written
filled f s h = rw (le-ltb (length s) (length f) (omega arith)) (ap (λ l. f ++ l) (drop_all (length f) s (omega arith)) ∙ append-nil f)

-- the first bytes of the longer frame are as many as either kind has
pub sliced : (keeps : Bool) (x : Supervisor) (n : ℕ) → n ≡ 2 + state_length keeps → length {A = ℕ} (take n (replicate 194 0)) ≡ length (state_frame keeps x)
sliced keeps x n h = rw (length-take {A = ℕ} n (replicate 194 0), size keeps x, h) (fits keeps)
  where
    fits : (keeps : Bool) → min (2 + state_length keeps) 194 ≡ 2 + state_length keeps
    fits true = refl
    fits false = refl
