-- `frame_telemetry::write_telemetry` meets its contract. Assumes nothing.
use mathlib.Core.Path.{◌∙◌}
use native.Mathlib.Omega.{arith}
use Rattle.wire.proofs.Head.{room, no_room}
use Rattle.frame_telemetry.specs.TelemetryFrame.{telemetry_frame}
use Rattle.frame_telemetry.proofs.Size.{size}
use Rattle.frame_telemetry.proofs.write_telemetry.Goals as goal

pub returns-then-s-lt106 : goal.returns-then-s-lt106
returns-then-s-lt106 c =
    let a = c.args in
    no_room (telemetry_frame a.t) a.s.now 106 (size a.t) (omega arith)

pub returns : goal.returns
returns c =
    let a = c.args in
    let r = room (telemetry_frame a.t) a.s.now 106 (size a.t) (omega arith) in
    (r.0, c.put_telemetry.ensures ∙ r.1)
