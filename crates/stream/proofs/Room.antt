-- How many bytes of a frame are put into a slice, from what the frame's writer answers. Assumes nothing.
use Rattle.wire.specs.declared.FrameError.{FrameError}
use Rattle.std.specs.Result.{is_ok}
use Rattle.std.specs.Prelude.{Result, Ok, Err, ⊤}
use Prim.Native.Nat.{ℕ, zero-le}
use mathlib.Core.Bool.{Bool, true, false, cond, true≢false}
use mathlib.Core.List.{List, []}
use mathlib.Core.Path.{◌≡◌, ap, refl, sym}
use lib.Dec.{ltb}
use lib.ListN.{length}
use borrow.Author.Tests.{le-ltb}
use Rattle.wire.specs.Frame.{frame_written, check_room}
use Rattle.stream.specs.Stream.{put_count}

pub put_all : (f out : List ℕ) (k : ℕ) → length f ≡ k → Ok tt ≡ check_room f out → k ≡ put_count f out
unfolding check_room put_count
put_all f out k size e = by (ltb (length out) (length f)) e
  where
    by : (b : Bool) → ◌≡◌ {A = Result ⊤ FrameError} (Ok tt) (cond b (Err FrameError.NoRoom) (Ok tt)) → k ≡ cond b 0 (length f)
    by true h = absurd (true≢false (ap is_ok h))
    by false h = sym size

pub put_none : (f out : List ℕ) (d : FrameError) → Err d ≡ check_room f out → 0 ≡ put_count f out
unfolding check_room put_count
put_none f out d e = by (ltb (length out) (length f)) e
  where
    by : (b : Bool) → ◌≡◌ {A = Result ⊤ FrameError} (Err d) (cond b (Err FrameError.NoRoom) (Ok tt)) → 0 ≡ cond b 0 (length f)
    by true h = refl
    by false h = absurd (true≢false (sym (ap is_ok h)))

pub put_nothing : (out : List ℕ) → 0 ≡ put_count [] out
unfolding put_count
put_nothing out = rw (le-ltb (length out) 0 zero-le)

pub written_nothing : (out : List ℕ) → out ≡ frame_written [] out
unfolding frame_written
written_nothing out = rw (le-ltb (length out) 0 zero-le)
