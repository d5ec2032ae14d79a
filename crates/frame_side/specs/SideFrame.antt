-- Kind 6, document 02, L1: "kind 4 with one byte after the fence distance: the side, or 255 where there is no distance". Assumes nothing.
use Rattle.std.specs.Prelude.{ℕ, List, ◌++◌, take, drop, Result, Ok, Err}
use Rattle.std.specs.Result.{result_and}
use Rattle.types.specs.declared.Decision.{Decision}
use Rattle.wire.specs.Fields.{u8_at, le8}
use Rattle.wire.specs.Frame.{check_frame, frame_head}
use Rattle.wire.specs.declared.FrameError.{FrameError}
use Rattle.frame_decision.specs.DecisionFrame.{read_decision, decision_frame}
use Rattle.frame_side.specs.declared.SideDecision.{SideDecision}

-- a frame of kind 4 with a byte put in after the fence distance, which ends at byte 94: kind 6, one byte longer
abbrev pub with_side : List ℕ → ℕ → List ℕ
with_side frame side = frame_head 6 94 ++ (drop 4 (take 94 frame) ++ (le8 side ++ drop 94 frame))

-- and that byte taken out again
abbrev pub without_side : List ℕ → List ℕ
without_side s = frame_head 4 93 ++ (drop 4 (take 94 s) ++ drop 95 s)

-- the whole frame: 94 bytes of kind and body
unfoldable pub side_frame : Decision → ℕ → List ℕ
side_frame d side = with_side (decision_frame d) side

-- a Decision that was read, with a side byte; any byte may stand there
abbrev pub beside : Result Decision FrameError → ℕ → Result SideDecision FrameError
beside (Ok d) side = Ok (record { decision = d; side = side })
beside (Err e) side = Err e

-- the frame read: what the head earns, or what kind 4's reader makes of the rest
unfoldable pub read_side : List ℕ → Result SideDecision FrameError
read_side s = result_and (check_frame 6 94 s) (beside (read_decision (without_side s)) (u8_at s 94))
