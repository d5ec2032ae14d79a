-- A LandedState is read, or its byte refused. Assumes nothing.
use Rattle.std.specs.Prelude.{Err}
use Rattle.std.specs.Result.{result_or}
use mathlib.Core.Path.{◌∙◌}
use Rattle.wire.specs.Fields.{u8_at, byte_below}
use Rattle.wire.specs.declared.FrameError.{FrameError}
use Rattle.frame_telemetry.specs.Readings.{landed_at}
use Rattle.frame_telemetry.proofs.Checked.{landed_read}
use Rattle.frame_telemetry.proofs.LandedStateValue.checked.Goals as goal

pub returns : goal.returns
unfolding u8_at byte_below landed_at
returns c = c.or.ensures ∙ (λ j. result_or (c.try_from.ensures j) (Err FrameError.OutOfRange)) ∙ landed_read (u8_at c.args.s.now c.args.at)
