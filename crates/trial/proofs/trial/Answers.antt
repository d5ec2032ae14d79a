-- `trial::trial` meets its contract. Assumes nothing.
use Rattle.std.specs.Prelude.{Ok}
use Rattle.std.proofs.Common.{◌≡◌, ◌≤◌, ◌++◌, length, drop, sym, ap, ◌∙◌, arith}
use Rattle.frame_telemetry.specs.TelemetryFrame.{telemetry_frame}
use Rattle.trial.specs.declared.NextFrame.{NextFrame}
use Rattle.trial.specs.Call.{generator_bytes, read_generator, TrialCall}
use Rattle.wire.specs.Frame.{frame_number}
use Rattle.wire.proofs.Head.{room as frame_room}
use Rattle.frame_telemetry.proofs.Size.{size as telemetry_size}
use Rattle.trial.proofs.Calls.{makes, read_is, filled, frame_first}
use Rattle.trial.proofs.trial.Goals as goal

pub returns : goal.returns
returns c =
    let a = c.args in
    let g = a.generator.now in
    let o = a.output.now in
    let read : read_generator g ≡ Ok c.in_ok-g.g = sym c.read_generator.ensures ∙ c.in_ok-g.was in
    let room : 106 ≤ length o = omega arith in
    let e = makes g o read room in
    let n = c.next_frame-next.ensures in record {
      value = ap frame_number (c.write_telemetry.ensures.0 ∙ sym (frame_room (telemetry_frame c.next_frame-next.result.telemetry) o 106 (telemetry_size _) room).0) ∙ sym (ap (λ (r : TrialCall). r.number) e);
      generator_after = c.put_generator.ensures
          ∙ filled g c.next_frame-next.result.generator (read_is g read).0
          ∙ ap (λ (r : NextFrame). generator_bytes r.generator) n
          ∙ sym (ap (λ (r : TrialCall). r.generator) e);
      output_after = c.write_telemetry.ensures.1
          ∙ frame_first c.next_frame-next.result.telemetry o room
          ∙ ap (λ (r : NextFrame). telemetry_frame r.telemetry ++ drop 106 o) n
          ∙ sym (ap (λ (r : TrialCall). r.output) e);
    }
