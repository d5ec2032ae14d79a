-- `frame_telemetry::put_sats` meets its contract, case by case. Assumes nothing.
use Rattle.std.specs.Prelude.{Option, ℕ}
use mathlib.Core.Path.{◌∙◌, sym, ap}
use mathlib.Core.List.{[], ◌∷◌}
use Rattle.wire.specs.Fields.{le8, le_flag}
use Rattle.wire.specs.Laid.{laid}
use Rattle.wire.proofs.Stores.{put, done, into, ran}
use Rattle.options.specs.Options.{le_option_u8}
use Rattle.frame_telemetry.proofs.put_sats.Goals as goal

pub returns-in-Some : goal.returns-in-Some
unfolding le8 le_flag le_option_u8
returns-in-Some c =
    let l = c.args.s.now in
    ran l (put 43 (1 ∷ []) ∷ put 44 (le8 _) ∷ []) _ (into c.put_u8.ensures (into c.put_u8-in-Some.ensures done)) ∙ sym (ap (λ (o : Option ℕ). laid l 43 (le_option_u8 o)) c.in-Some.is)

pub returns-in_default : goal.returns-in_default
unfolding le8 le_flag le_option_u8
returns-in_default c = sym (ap (λ (o : Option ℕ). laid c.args.s.now 43 (le_option_u8 o)) c.in_default.is)
