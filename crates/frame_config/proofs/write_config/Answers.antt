-- `frame_config::write_config` meets its contract. Assumes nothing.
use native.Mathlib.Omega.{arith}
use mathlib.Core.Path.{◌∙◌}
use Rattle.frame_config.specs.ConfigFrame.{config_frame}
use Rattle.frame_config.proofs.Size.{size}
use Rattle.wire.proofs.Head.{room, no_room}
use Rattle.frame_config.proofs.write_config.Goals as goal

pub returns-then-s-lt246 : goal.returns-then-s-lt246
returns-then-s-lt246 c =
    let a = c.args in
    no_room (config_frame a.c) a.s.now 246 (size a.c) (omega arith)

pub returns : goal.returns
returns c =
    let a = c.args in
    let r = room (config_frame a.c) a.s.now 246 (size a.c) (omega arith) in
    (r.0, c.put_config.ensures ∙ r.1)
