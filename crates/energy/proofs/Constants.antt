-- The number of joules of a watt-hour. Assumes nothing.
use mathlib.Core.Bool.{false}
use mathlib.Core.Path.{◌≡◌, refl}
use lib.Ieee.{binary32, of_bits, round}
use Rattle.energy.specs.Energy.{joules_per_wh}

pub joules_per_wh_lem : joules_per_wh ≡ round binary32 false 3600 1
unfolding of_bits round
joules_per_wh_lem = refl
