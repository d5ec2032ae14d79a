-- No error has number 0. Assumes nothing.
use Prim.Native.Nat.{◌<◌}
use native.Mathlib.Omega.{arith}
use Rattle.corners.specs.declared.FenceError.{FenceError}
use Rattle.corners.specs.Acceptance.{fence_error_number}
use Rattle.wire.specs.declared.FrameError.{FrameError}
use Rattle.wire.specs.Frame.{frame_error_number}
use Rattle.frame_areas.specs.declared.AreaError.{AreaError}
use Rattle.frame_areas.specs.AreaFrame.{area_error_number}

pub frame_some : (e : FrameError) → 0 < frame_error_number e
frame_some FrameError.Incomplete = omega arith
frame_some FrameError.WrongKind = omega arith
frame_some FrameError.WrongLength = omega arith
frame_some FrameError.OutOfRange = omega arith
frame_some FrameError.NoRoom = omega arith

pub fence_some : (e : FenceError) → 0 < fence_error_number e
fence_some FenceError.TooFewVertices = omega arith
fence_some FenceError.TooManyVertices = omega arith
fence_some FenceError.NonFinite = omega arith
fence_some FenceError.OutOfEnvelope = omega arith
fence_some FenceError.DuplicateVertex = omega arith
fence_some FenceError.CollinearEdge = omega arith
fence_some FenceError.NotConvex = omega arith
fence_some FenceError.AreaTooSmall = omega arith
fence_some FenceError.BadAltitudes = omega arith
fence_some FenceError.NotOnceRound = omega arith

pub area_some : (e : AreaError) → 0 < area_error_number e
area_some (AreaError.Frame e) = frame_some e
area_some (AreaError.Corners e) = fence_some e
area_some AreaError.NinthArea = omega arith
area_some AreaError.AreaNumber = omega arith
area_some AreaError.HomeInArea = omega arith
