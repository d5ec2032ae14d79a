-- The instances hold by computation. Assumes nothing.
use mathlib.Core.Path.{refl}
use Rattle.timers.specs.Timer.{raised_by}
use Rattle.raised_laws.specs.Pair.{raised_after}
use Rattle.raised_laws.specs.Instances.{RaisedInstances}

pub raised_instances : RaisedInstances
unfolding raised_after raised_by
raised_instances =
    record {
      stays = refl;
      is_cleared = refl;
      not_yet = refl;
      both_held = refl;
      both_held_later = refl;
      disarmed = refl;
      raised_anew = refl;
      kind_1_forgets = refl;
      kind_11_keeps = refl;
      kind_1_both = refl;
      kind_11_both = refl;
    }
