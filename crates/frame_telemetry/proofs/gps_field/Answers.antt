-- `frame_telemetry::gps_field` meets its contract. Assumes nothing.
use Rattle.std.specs.Prelude.{Some, Ok}
use mathlib.Core.Path.{◌∙◌, sym}
use mathlib.Core.Bool.{true, false}
use Rattle.wire.specs.Fields.{u8_at}
use Rattle.options.proofs.Options.{present}
use Rattle.frame_telemetry.specs.Readings.{option_gps_at}
use Rattle.frame_telemetry.specs.Checked.{sample_at, gps_valid, gps_field}
use Rattle.frame_telemetry.proofs.Checked.{flag_set, flag_clear, tested, all_zero_lem, zero_sample_lem}
use Rattle.frame_telemetry.proofs.gps_field.Goals as goal

pub returns-then-sample_valid : goal.returns-then-sample_valid
unfolding u8_at sample_at option_gps_at gps_valid gps_field
returns-then-sample_valid c =
    let s = c.args.s.now in
    let e = c.if-f-eq1.true in
    simp (present s 37 12 e, sym c.sample_valid.ensures ∙ c.if-sample_valid.true, flag_set s 37 e) (λ j. Ok (Some (c.sample_at.ensures j)))

pub returns-else-sample_valid : goal.returns-else-sample_valid
unfolding u8_at gps_valid gps_field
returns-else-sample_valid c =
    let s = c.args.s.now in
    simp (present s 37 12 c.if-f-eq1.true, sym c.sample_valid.ensures ∙ c.if-sample_valid.false)

pub returns-then-f-zero : goal.returns-then-f-zero
unfolding u8_at option_gps_at gps_valid gps_field
returns-then-f-zero c =
    let s = c.args.s.now in
    let h = c.if-f-eq1.false in
    let z = c.zero in
    simp (tested s 37 12 _ true h z.ensures c.if-f-zero.true, zero_sample_lem s (all_zero_lem s 37 12 _ z.ensures c.if-f-zero.true), flag_clear s 37 h)

pub returns-else-f-zero : goal.returns-else-f-zero
unfolding u8_at gps_valid gps_field
returns-else-f-zero c =
    simp (tested c.args.s.now 37 12 _ false c.if-f-eq1.false c.zero.ensures c.if-f-zero.false)
