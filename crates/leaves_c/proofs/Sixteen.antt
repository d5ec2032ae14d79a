-- The number that the writer of a fence's frame answers for sixteen corners. Assumes nothing.
use mathlib.Core.Path.{◌≡◌, refl}
use mathlib.Core.List.{List}
use Prim.Native.Nat.{ℕ}
use Rattle.std.specs.Prelude.{Result, Ok, Err, ⊤}
use Rattle.std.specs.Result.{result_map_both}
use Rattle.wire.specs.declared.FrameError.{FrameError}
use Rattle.wire.specs.Frame.{frame_number, check_room, room_fault}
use Rattle.frame_fence.specs.declared.WriteError.{WriteError}
use Rattle.frame_fence.specs.FenceFrame.{write_number, check_write}

same_number : (r : Result ⊤ FrameError) → write_number (result_map_both (λ x. x) WriteError.Frame r) ≡ frame_number r
same_number (Ok x) = refl
same_number (Err e) = refl

pub places_number : (f s : List ℕ) → write_number (check_write 16 f s) ≡ room_fault f s
unfolding check_write
places_number f s = same_number (check_room f s)
