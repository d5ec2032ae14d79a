-- The constant is the binary32 number nearest to the decimal that the Rust writes. Assumes nothing.
use mathlib.Core.Path.{◌≡◌, refl}
use mathlib.Core.Bool.{false}
use lib.Ieee.{binary32, round, of_bits}
use Rattle.triggers.specs.Families.{two_and_a_half}

pub two_and_a_half_is : two_and_a_half ≡ round binary32 false 5 2
unfolding of_bits round
two_and_a_half_is = refl
