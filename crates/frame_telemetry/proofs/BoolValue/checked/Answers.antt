-- A bool is read, or its byte refused. Assumes nothing.
use borrow.Author.Tests.{lt-ltb, le-ltb}
use Rattle.wire.specs.Fields.{u8_at, flag_at, byte_below}
use Rattle.frame_telemetry.proofs.BoolValue.checked.Goals as goal

pub returns-then-b-lt2 : goal.returns-then-b-lt2
unfolding u8_at flag_at byte_below
returns-then-b-lt2 c = simp (lt-ltb (u8_at c.args.s.now c.args.at) 2 c.if-b-lt2.true)

pub returns-else-b-lt2 : goal.returns-else-b-lt2
unfolding u8_at byte_below
returns-else-b-lt2 c = simp (le-ltb (u8_at c.args.s.now c.args.at) 2 c.if-b-lt2.false)
