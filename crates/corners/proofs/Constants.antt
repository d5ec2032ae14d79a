-- The constants are the binary32 numbers nearest to what document 01 says. Assumes nothing.
use mathlib.Core.Path.{◌≡◌, refl}
use mathlib.Core.Bool.{false}
use lib.Ieee.{binary32, round, of_bits}
use Rattle.corners.specs.Acceptance.{envelope, least_turn, least_area, half}

pub envelope_is : envelope ≡ round binary32 false 10000 1
unfolding of_bits round
envelope_is = refl

pub least_turn_is : least_turn ≡ round binary32 false 1 10000
unfolding of_bits round
least_turn_is = refl

pub least_area_is : least_area ≡ round binary32 false 100 1
unfolding of_bits round
least_area_is = refl

pub half_is : half ≡ round binary32 false 1 2
unfolding of_bits round
half_is = refl
