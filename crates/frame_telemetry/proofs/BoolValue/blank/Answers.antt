-- A byte is tested for 0. Assumes nothing.
use mathlib.Core.Path.{sym}
use Rattle.wire.specs.Fields.{u8_at}
use Rattle.options.proofs.Zeros.{zeros_u8}
use Rattle.frame_telemetry.proofs.BoolValue.blank.Goals as goal

pub returns : goal.returns
unfolding u8_at
returns c = sym (zeros_u8 c.args.s.now c.args.at)
