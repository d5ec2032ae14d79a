-- `trial::put_next` meets its contract. Assumes nothing.
use Rattle.std.proofs.Common.{◌+◌, ◌-◌, ◌++◌, length, take, drop, ap, ◌∙◌}
use borrow.Rule.Slice.PartMut.{put_mid}
use Rattle.frame_telemetry.specs.TelemetryFrame.{telemetry_frame}
use Rattle.trial.specs.declared.NextFrame.{NextFrame}
use Rattle.trial.proofs.Rows.{into}
use Rattle.trial.proofs.put_next.Goals as goal

pub returns : goal.returns
returns c =
    let a = c.args in
    let f = c.next_frame-next.ensures in record {
      value = ap (λ (r : NextFrame). r.generator) f;
      block_after = ap (put_mid a.at (length a.block.now - a.at) a.block.now) c.write_telemetry.ensures.1
          ∙ into a.block.now a.at c.next_frame-next.result.telemetry c.requires
          ∙ ap (λ (r : NextFrame). take a.at a.block.now ++ (telemetry_frame r.telemetry ++ drop (a.at + 106) a.block.now)) f;
    }
