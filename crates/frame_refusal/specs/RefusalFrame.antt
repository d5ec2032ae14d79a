-- Kind 255: "refusal number, two bytes". Assumes nothing.
use Rattle.std.specs.Prelude.{ℕ, List, ◌++◌, Result, Ok}
use Rattle.std.specs.Result.{result_and}
use Rattle.wire.specs.Fields.{u16_at, le16}
use Rattle.wire.specs.Frame.{check_frame, frame_head}
use Rattle.wire.specs.declared.FrameError.{FrameError}

-- the frame read: the number that it holds, where the head is right
unfoldable pub read_refusal : List ℕ → Result ℕ FrameError
read_refusal s = result_and (check_frame 255 4 s) (Ok (u16_at s 4))

-- the whole frame: 4 bytes of kind and body
unfoldable pub refusal_frame : ℕ → List ℕ
refusal_frame n = frame_head 255 4 ++ le16 n
