-- `frame_telemetry::word` meets its contract. Assumes nothing.
use Rattle.wire.specs.Fields.{u8_at}
use Rattle.wire.proofs.Number.{u32_is}
use Rattle.frame_telemetry.proofs.word.Goals as goal

pub returns : goal.returns
unfolding u8_at
returns c = cc (u32_is c.args.s.now c.args.at)
