-- A frame read and written anew: the number and the slice written to. Assumes nothing.
use Rattle.std.specs.Prelude.{ℕ, false, List, Result, Ok, Err}
use Rattle.config.specs.declared.Config.{Config}
use Rattle.types.specs.declared.Decision.{Decision}
use Rattle.types.specs.declared.Telemetry.{Telemetry}
use Rattle.supervisor.specs.declared.Supervisor.{Supervisor}
use Rattle.wire.specs.declared.FrameError.{FrameError}
use Rattle.wire.specs.Frame.{frame_error_number, room_fault, frame_written}
use Rattle.frame_config.specs.ConfigFrame.{config_frame}
use Rattle.frame_fence.specs.declared.FenceRead.{FenceRead}
use Rattle.frame_fence.specs.FenceFrame.{frame_of, write_number, check_write, fence_written}
use Rattle.frame_refusal.specs.RefusalFrame.{refusal_frame}
use Rattle.frame_telemetry.specs.TelemetryFrame.{telemetry_frame}
use Rattle.frame_decision.specs.DecisionFrame.{decision_frame}
use Rattle.frame_state.specs.StateFrame.{state_frame}

pub record Again : Type 0 where
  pub number : ℕ
  pub slice : List ℕ

-- refused by the reader
abbrev pub refused : FrameError → List ℕ → Again
refused e to = record { number = frame_error_number e; slice = to }

-- what the writer makes of a frame's bytes
abbrev pub written : List ℕ → List ℕ → Again
written bytes to = record { number = room_fault bytes to; slice = frame_written bytes to }

-- a frame that was read, by the bytes of the frame of what it gave
abbrev pub again : {A : Type 0} → (A → List ℕ) → Result A FrameError → List ℕ → Again
again frame (Ok x) to = written (frame x) to
again frame (Err e) to = refused e to

abbrev pub config_again : Result Config FrameError → List ℕ → Again
config_again read to = again config_frame read to

-- more than sixteen corners are read, and not written
abbrev pub fence_again : Result FenceRead FrameError → List ℕ → Again
fence_again (Ok r) to = record { number = write_number (check_write r.count (frame_of r) to); slice = fence_written r.count (frame_of r) to }
fence_again (Err e) to = refused e to

abbrev pub telemetry_again : Result Telemetry FrameError → List ℕ → Again
telemetry_again read to = again telemetry_frame read to

abbrev pub decision_again : Result Decision FrameError → List ℕ → Again
decision_again read to = again decision_frame read to

-- kind 5
abbrev pub state_again : Result Supervisor FrameError → List ℕ → Again
state_again read to = again (state_frame false) read to

abbrev pub refusal_again : Result ℕ FrameError → List ℕ → Again
refusal_again read to = again refusal_frame read to
