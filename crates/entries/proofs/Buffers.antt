-- A state slice that was read is exactly a frame long, so a written state frame is all of it; a frame that was written stands before the later bytes. Assumes nothing.
use Rattle.wire.specs.declared.FrameError.{FrameError}
use Rattle.std.specs.Result.{result_and}
use Rattle.std.specs.Prelude.{Result, Ok, Err, ⊤}
use Prim.Native.Nat.{ℕ, ◌+◌, ◌≤◌}
use native.Mathlib.Nat.{le_of_eq}
use native.Mathlib.Omega.{arith}
use mathlib.Core.Bool.{Bool, cond, ◌&&◌}
use mathlib.Core.List.{List, ◌++◌, append-nil}
use mathlib.Core.Path.{◌≡◌, refl, ap, sym, ◌∙◌}
use lib.ListN.{length, drop, drop_of_length-le}
use borrow.Author.Tests.{le-ltb}
use Rattle.supervisor.specs.declared.Supervisor.{Supervisor}
use Rattle.wire.specs.Frame.{frame_written, frame_number, check_frame, check_room}
use Rattle.wire.proofs.Head.{head_says}
use Rattle.frame_state.specs.StateFrame.{state_kind, state_length, state_at, raised_read, raised_valid, state_valid, read_state, state_frame}
use Rattle.frame_state.proofs.Size.{size as state_size_lem}

-- a state slice that is read is exactly a frame
pub state_bytes_lem : (keeps : Bool) (s : Supervisor) (state : List ℕ) → read_state keeps state ≡ Ok s → length state ≡ 2 + state_length keeps
unfolding read_state
state_bytes_lem keeps s state h = at (check_frame (state_kind keeps) (state_length keeps) state) refl h
  where
    at : (r : Result ⊤ FrameError) → check_frame (state_kind keeps) (state_length keeps) state ≡ r → result_and r (cond (state_valid state && raised_valid keeps state) (Ok (state_at state (raised_read keeps state))) (Err FrameError.OutOfRange)) ≡ Ok s → length state ≡ 2 + state_length keeps
    at (Ok tt) e r = (head_says (state_kind keeps) (state_length keeps) state (ap frame_number e)).1.1
    at (Err x) e r = let z : ◌≡◌ {A = ℕ} 0 1 = cc in absurd (omega arith)

pub state_room : (keeps : Bool) (x : Supervisor) (state : List ℕ) → length state ≡ 2 + state_length keeps → check_room (state_frame keeps x) state ≡ Ok tt
unfolding check_room
state_room keeps x state h =
    let s = state_size_lem keeps x in
    rw (le-ltb (length state) (length (state_frame keeps x)) (omega arith)) refl

pub state_written : (keeps : Bool) (x : Supervisor) (state : List ℕ) → length state ≡ 2 + state_length keeps → frame_written (state_frame keeps x) state ≡ state_frame keeps x
unfolding frame_written
state_written keeps x state h =
    let f = state_frame keeps x in
    let s = state_size_lem keeps x in
    let e : length state ≡ length f = h ∙ sym s in
    rw (le-ltb (length state) (length f) (omega arith), drop_of_length-le state {i = length f} (le_of_eq e)) (append-nil f)

-- a frame of n bytes, written where there is room for it
pub frame_written_lem : (f s : List ℕ) (n : ℕ) → length f ≡ n → n ≤ length s → frame_written f s ≡ f ++ drop n s
unfolding frame_written
frame_written_lem f s n e h = rw (le-ltb (length s) (length f) (omega arith)) (ap (λ (k : ℕ). f ++ drop k s) e)
