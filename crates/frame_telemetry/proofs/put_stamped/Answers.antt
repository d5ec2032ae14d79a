-- `frame_telemetry::put_stamped` meets its contract. Assumes nothing.
use mathlib.Core.Path.{◌∙◌, sym, ap}
use mathlib.Core.List.{[], ◌∷◌, ◌++◌}
use lib.Seq.{sets}
use Rattle.std.specs.Prelude.{unwrap_or}
use Rattle.wire.specs.Cell.{bytes_of}
use Rattle.wire.specs.Fields.{le_flag, le_bytes, le32}
use Rattle.frame_telemetry.proofs.Stamped.{stamped}
use Rattle.frame_telemetry.proofs.put_stamped.Goals as goal

pub returns : goal.returns
unfolding le_flag le_bytes le32
returns g c =
    let a = c.args in
    let some = c.is_some in
    let r = c.unwrap_or-r in
    let e = r.ensures ∙ ap (λ z. unwrap_or a.o (record { t_ms = 0; value = z })) c.zero.ensures in
    let w = sym (g.met.T.Value.cell_bytes r.result.value) ∙ ap (λ z. bytes_of (g.T.Value.cell z.value ∷ [])) e in
    stamped a.s.now a.at some.result r.result.t_ms (g.T.Field.bytes r.result.value) c.put_flag.ensures c.put_u32.ensures c.put.ensures
    ∙ (λ j. sets a.s.now a.at (le_flag (some.ensures j) ++ (le32 (e j).t_ms ++ w j)))
