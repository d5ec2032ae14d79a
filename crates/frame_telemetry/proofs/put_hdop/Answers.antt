-- `frame_telemetry::put_hdop` meets its contract, case by case. Assumes nothing.
use Rattle.std.specs.Prelude.{Option, Float}
use mathlib.Core.Path.{◌∙◌, sym, ap}
use mathlib.Core.List.{[], ◌∷◌}
use lib.Ieee.{of_bits, to_bits}
use Rattle.wire.specs.Fields.{le8, le_flag, le_bytes, le32, le_f32}
use Rattle.wire.specs.Laid.{laid}
use Rattle.wire.proofs.Stores.{put, done, into, ran}
use Rattle.options.specs.Options.{le_option_f32}
use Rattle.frame_telemetry.proofs.put_hdop.Goals as goal

pub returns-in-Some : goal.returns-in-Some
unfolding le8 le_flag le_f32 le32 le_bytes le_option_f32
returns-in-Some c =
    let l = c.args.s.now in
    ran l (put 45 (1 ∷ []) ∷ put 46 (le_f32 _) ∷ []) _ (into c.put_u8.ensures (into c.put_f32.ensures done)) ∙ sym (ap (λ (o : Option Float). laid l 45 (le_option_f32 o)) c.in-Some.is)

pub returns-in_default : goal.returns-in_default
unfolding le_flag le_f32 le32 le_bytes le_option_f32 to_bits of_bits
returns-in_default c = sym (ap (λ (o : Option Float). laid c.args.s.now 45 (le_option_f32 o)) c.in_default.is)
