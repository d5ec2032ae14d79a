-- The short runs, computed. Assumes nothing.
use mathlib.Core.Path.{refl}
use Rattle.time.specs.Time.{wrapping_sub, age, hold_met}
use Rattle.ladder.specs.Clock.{last_sound, faulted_row}
use Rattle.ladder.specs.Ladder.{quiet, earliest, quiet_stretch, with_changes}
use Rattle.ladder.specs.Instances.{played, actions, LadderInstances}

pub ladder_instances : LadderInstances
unfolding wrapping_sub age hold_met last_sound faulted_row quiet earliest quiet_stretch with_changes played actions
ladder_instances = record { table = refl; disarms = refl; came_down = refl; changed = refl; sound_start = refl; faults = refl; thirds = refl; hold_lost = refl; hold_lost_lasting = refl; kept_lost = refl }
