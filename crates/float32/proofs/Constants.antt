-- The bit patterns in specs/Binary32.antt are the numbers that it names. Assumes nothing.
use mathlib.Core.Path.{◌≡◌, refl}
use mathlib.Core.Bool.{false}
use lib.IntN.{pos}
use lib.Ieee.{binary32, round, of_bits, fin}
use Rattle.float32.specs.Binary32.{zero_f, two}

pub zero_is : zero_f ≡ fin false 0 (pos 0)
unfolding of_bits
zero_is = refl

pub two_is : two ≡ round binary32 false 2 1
unfolding of_bits round
two_is = refl
