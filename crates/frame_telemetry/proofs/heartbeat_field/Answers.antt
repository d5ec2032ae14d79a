-- `frame_telemetry::heartbeat_field` meets its contract. Assumes nothing.
use Rattle.std.specs.Prelude.{Some, Ok}
use mathlib.Core.Bool.{true, false}
use Rattle.wire.specs.Fields.{u8_at}
use Rattle.options.proofs.Options.{present}
use Rattle.options.specs.Options.{option_u32_at}
use Rattle.frame_telemetry.specs.Checked.{heartbeat_field}
use Rattle.frame_telemetry.proofs.Checked.{flag_set, flag_clear, tested}
use Rattle.frame_telemetry.proofs.heartbeat_field.Goals as goal

pub returns-then-f-eq1 : goal.returns-then-f-eq1
unfolding u8_at option_u32_at heartbeat_field
returns-then-f-eq1 c =
    let s = c.args.s.now in
    let e = c.if-f-eq1.true in
    simp (present s 77 4 e, flag_set s 77 e) (λ j. Ok (Some (c.word.ensures j)))

pub returns-then-f-zero : goal.returns-then-f-zero
unfolding u8_at option_u32_at heartbeat_field
returns-then-f-zero c =
    let s = c.args.s.now in
    let h = c.if-f-eq1.false in
    simp (tested s 77 4 _ true h c.zero.ensures c.if-f-zero.true, flag_clear s 77 h)

pub returns-else-f-zero : goal.returns-else-f-zero
unfolding u8_at heartbeat_field
returns-else-f-zero c =
    simp (tested c.args.s.now 77 4 _ false c.if-f-eq1.false c.zero.ensures c.if-f-zero.false)
