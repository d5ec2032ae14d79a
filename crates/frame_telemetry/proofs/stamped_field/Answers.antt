-- `frame_telemetry::stamped_field` meets its contract. Assumes nothing.
use Rattle.std.specs.Prelude.{Some, Ok}
use Rattle.std.proofs.lemmas.Result.{err_from_is_err_and}
use Prim.Native.Nat.{◌+◌}
use mathlib.Core.Path.{◌∙◌, sym}
use mathlib.Core.Bool.{true, false, ◌&&◌, and_assoc}
use lib.Dec.{eqb}
use Rattle.wire.specs.Fields.{u8_at}
use Rattle.wire.proofs.Read.{within_range}
use Rattle.wire.proofs.Whole.{second}
use Rattle.options.proofs.Options.{present}
use Rattle.frame_telemetry.specs.Checked.{stamped_field}
use Rattle.frame_telemetry.proofs.Checked.{flag_set, flag_clear, tested, stamp_zero, refused}
use Rattle.frame_telemetry.proofs.stamped_field.Goals as goal

pub returns-in_err-value : goal.returns-in_err-value
unfolding u8_at stamped_field
returns-in_err-value g c =
    let a = c.args in
    let v = g.T.Value in
    let p = err_from_is_err_and c.from_residual.result c.from_residual.ensures.1 in
    simp (present a.s.now a.at (4 + v.width) c.if-f-eq1.true) (p.1 ∙ refused (v.valid a.s.now (a.at + 5)) _ _ _ _ (sym c.checked.ensures ∙ c.in_err-value.was) p.2)

pub returns-in_ok-value : goal.returns-in_ok-value
unfolding u8_at stamped_field
returns-in_ok-value g c =
    let a = c.args in
    let v = g.T.Value in
    let e = c.if-f-eq1.true in
    let q = within_range (v.valid a.s.now (a.at + 5)) _ _ (sym c.checked.ensures ∙ c.in_ok-value.was) in
    simp (present a.s.now a.at (4 + v.width) e, q.0, flag_set a.s.now a.at e) (λ j. Ok (Some (record { t_ms = c.word-t_ms.ensures j; value = sym q.1 j })))

pub returns-then-f-zero : goal.returns-then-f-zero
unfolding u8_at stamped_field
returns-then-f-zero g c =
    let a = c.args in
    let s = a.s.now in
    let v = g.T.Value in
    let h = c.if-f-eq1.false in
    let t = c.if-f-zero.true in
    let z = stamp_zero s a.at v.width c.zero.result c.blank.result c.zero.ensures c.blank.ensures in
    simp (tested s a.at (4 + v.width) _ true h z (sym (and_assoc (eqb (u8_at s a.at) 0) c.zero.result c.blank.result) ∙ t), g.met.T.Value.zero_valid s (a.at + 5) (sym c.blank.ensures ∙ second (eqb (u8_at s a.at) 0 && c.zero.result) c.blank.result t), flag_clear s a.at h)

pub returns-else-f-zero : goal.returns-else-f-zero
unfolding u8_at stamped_field
returns-else-f-zero g c =
    let a = c.args in
    let s = a.s.now in
    let v = g.T.Value in
    let z = stamp_zero s a.at v.width c.zero.result c.blank.result c.zero.ensures c.blank.ensures in
    simp (tested s a.at (4 + v.width) _ false c.if-f-eq1.false z (sym (and_assoc (eqb (u8_at s a.at) 0) c.zero.result c.blank.result) ∙ c.if-f-zero.false))
